use Rattle.std.proofs.Common.{◌*◌, sym, subst}
use Rattle.taint_pages.specs.Pages.{AreSound, AreUnset, contents, numbers_from, page_len}
use Rattle.taint_pages.proofs.Flat.{sound-absent, unset-absent}
use Rattle.taint_pages.proofs.numbers.SetNumbers.new.Goals as goal

pub invariant_of-result : goal.invariant_of-result
invariant_of-result c = subst (λ pages. AreSound c.args.unset (contents pages)) (sym c.in_ok-absent.ensures) (sound-absent c.args.unset c.args.pages c.requires)

pub returns : goal.returns
returns c = subst (λ pages. AreUnset c.args.unset (page_len * c.args.pages) (numbers_from c.args.unset 0 (contents pages))) (sym c.in_ok-absent.ensures) (unset-absent c.args.unset c.args.pages)

use Rattle.std.proofs.Common.{◌<◌, ◌*◌, ◌/◌, ◌%◌, length, get_or, sym, subst, ap, ◌∙◌, arith}
use Rattle.taint_pages.specs.Pages.{IsPage, contents, number_in, page_len}
use Rattle.taint_pages.proofs.Flat.{index-pages, page-inside, place-fits, place-inside, read-page}
use Rattle.taint_pages.proofs.numbers.SetNumbers.get.Goals as goal

pub index-requires : goal.index-requires
index-requires c =
    let inside = place-inside c.self.inside.unset c.self.inside.pages.items c.self.invariant c.args.at (subst (λ l. c.args.at < length l) (sym c.self.view_is) c.requires) in
    omega (arith, inside, c.self.inside.pages.ok)

pub number_of-requires-clause-page : goal.number_of-requires-clause-page
number_of-requires-clause-page c =
    let inside = page-inside c.self.inside.unset (contents c.self.inside.pages.items) c.self.invariant.whole c.args.at (subst (λ l. c.args.at < length l) (sym c.self.view_is) c.requires) in
    subst (λ p. IsPage p) (sym (read-page c.self.inside.pages.items (c.args.at / page_len) c.index.result.now inside c.index.ensures)) (c.self.invariant.whole (c.args.at / page_len))

pub number_of-requires-clause-fits : goal.number_of-requires-clause-fits
number_of-requires-clause-fits c =
    place-fits c.self.inside.unset (contents c.self.inside.pages.items) c.self.invariant c.args.at (page-inside c.self.inside.unset (contents c.self.inside.pages.items) c.self.invariant.whole c.args.at (subst (λ l. c.args.at < length l) (sym c.self.view_is) c.requires))

pub returns : goal.returns
returns c =
    let inside = page-inside c.self.inside.unset (contents c.self.inside.pages.items) c.self.invariant.whole c.args.at (subst (λ l. c.args.at < length l) (sym c.self.view_is) c.requires) in
    c.number_of.ensures
    ∙ ap (λ p. number_in c.self.inside.unset (c.args.at / page_len * page_len) p (c.args.at % page_len)) (read-page c.self.inside.pages.items (c.args.at / page_len) c.index.result.now inside c.index.ensures)
    ∙ sym (index-pages c.self.inside.unset (contents c.self.inside.pages.items) c.self.invariant.whole c.args.at inside)
    ∙ ap (λ l. get_or l c.args.at 0) c.self.view_is

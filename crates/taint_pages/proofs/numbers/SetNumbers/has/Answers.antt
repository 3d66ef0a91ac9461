use Rattle.std.proofs.Common.{◌/◌, nat_lt, length, ap, arith, ◌∙◌}
use Rattle.std.proofs.lemmas.Bool.{ltb-true, lt-ltb, ltb_from_iff}
use Rattle.taint_pages.specs.Pages.{contents, numbers_from, page_len}
use Rattle.taint_pages.proofs.Flat.{length-contents, length-pages}
use Rattle.taint_pages.proofs.numbers.SetNumbers.has.Goals as goal

pub returns : goal.returns
returns c =
    let pages = contents c.self.inside.pages.items in
    let long = length-pages c.self.inside.unset 0 pages c.self.invariant.whole in
    let same = length-contents c.self.inside.pages.items in
    ltb_from_iff {b = nat_lt (c.args.at / page_len) c.len.result} {m = c.args.at} {n = length (numbers_from c.self.inside.unset 0 pages)} (
      λ h. let below = ltb-true (c.args.at / page_len) c.len.result h in omega (arith, long, same, c.self.inside.pages.ok, c.len.ensures, below),
      λ h. lt-ltb (c.args.at / page_len) c.len.result (omega (arith, long, same, c.self.inside.pages.ok, c.len.ensures, h)),
    )
    ∙ ap (λ l. nat_lt c.args.at (length l)) c.self.view_is

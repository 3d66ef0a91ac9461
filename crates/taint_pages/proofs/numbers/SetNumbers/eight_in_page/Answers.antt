use Rattle.std.proofs.Common.{◌<◌, ◌/◌, length, sym, subst, arith}
use Rattle.taint_pages.specs.Pages.{AreEight, IsPage, content, contents, page_len}
use Rattle.taint_pages.proofs.Flat.{eight-page, page-inside, place-fits, place-inside, read-page}
use Rattle.taint_pages.proofs.numbers.SetNumbers.eight_in_page.Goals as goal

pub index-requires : goal.index-requires
index-requires c =
    let inside = place-inside c.self.inside.unset c.self.inside.pages.items c.self.invariant c.args.at (subst (λ l. c.args.at < length l) (sym c.self.view_is) c.requires.there) in
    omega (arith, inside, c.self.inside.pages.ok)

pub eight_of-requires-clause-page : goal.eight_of-requires-clause-page
eight_of-requires-clause-page c =
    let inside = page-inside c.self.inside.unset (contents c.self.inside.pages.items) c.self.invariant.whole c.args.at (subst (λ l. c.args.at < length l) (sym c.self.view_is) c.requires.there) in
    subst (λ p. IsPage p) (sym (read-page c.self.inside.pages.items (c.args.at / page_len) c.index.result.now inside c.index.ensures)) (c.self.invariant.whole (c.args.at / page_len))

pub eight_of-requires-clause-fits : goal.eight_of-requires-clause-fits
eight_of-requires-clause-fits c =
    place-fits c.self.inside.unset (contents c.self.inside.pages.items) c.self.invariant c.args.at (page-inside c.self.inside.unset (contents c.self.inside.pages.items) c.self.invariant.whole c.args.at (subst (λ l. c.args.at < length l) (sym c.self.view_is) c.requires.there))

pub returns : goal.returns
returns c =
    let inside = page-inside c.self.inside.unset (contents c.self.inside.pages.items) c.self.invariant.whole c.args.at (subst (λ l. c.args.at < length l) (sym c.self.view_is) c.requires.there) in
    subst (λ l. AreEight l c.args.at c.args.len c.eight_of.result) c.self.view_is
    (eight-page c.self.inside.unset (contents c.self.inside.pages.items) c.self.invariant.whole c.args.at c.args.len c.eight_of.result (content c.index.result.now) inside
    (read-page c.self.inside.pages.items (c.args.at / page_len) c.index.result.now inside c.index.ensures) c.requires.inside c.requires.few c.eight_of.ensures)

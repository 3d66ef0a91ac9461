use Rattle.std.proofs.Common.{◌≡◌, ◌<◌, ◌*◌, ◌/◌, ◌%◌, length, Ok, Err, OnErr, OnOk, Result, ap, sym, subst, arith, ◌∙◌}
use Rattle.std.proofs.Math.Seq.{map-set_same}
use Rattle.taint_pages.specs.Pages.{IsPage, SetsOne, content, contents, numbers_from, page_len}
use Rattle.taint_pages.proofs.Flat.{page-inside, place-fits, place-inside, read-page, sets-page, sound-set}
use Rattle.taint_pages.proofs.numbers.SetNumbers.set.Goals as goal

pub index_mut-page-requires : goal.index_mut-page-requires
index_mut-page-requires c =
    let inside = place-inside c.self.inside.unset c.self.inside.pages.items c.self.invariant c.args.at (subst (λ l. c.args.at < length l) (sym c.self.view_is) c.requires) in
    omega (arith, inside, c.self.inside.pages.ok)

pub set_number-requires-clause-page : goal.set_number-requires-clause-page
set_number-requires-clause-page c =
    let inside = page-inside c.self.inside.unset (contents c.self.inside.pages.items) c.self.invariant.whole c.args.at (subst (λ l. c.args.at < length l) (sym c.self.view_is) c.requires) in
    subst (λ p. IsPage p) (sym (read-page c.self.inside.pages.items (c.args.at / page_len) c.index_mut-page.result.now inside c.index_mut-page.ensures.value)) (c.self.invariant.whole (c.args.at / page_len))

pub set_number-requires-clause-fits : goal.set_number-requires-clause-fits
set_number-requires-clause-fits c =
    place-fits c.self.inside.unset (contents c.self.inside.pages.items) c.self.invariant c.args.at (page-inside c.self.inside.unset (contents c.self.inside.pages.items) c.self.invariant.whole c.args.at (subst (λ l. c.args.at < length l) (sym c.self.view_is) c.requires))

pub invariant_of-self : goal.invariant_of-self
invariant_of-self c = sound-set c.self.inside.unset c.self.inside.pages.items (c.args.at / page_len) c.set_number.new.page c.self.invariant c.set_number.ensures.page

on-ok : {X Y : Type 0} {P Q : Type 0} (r : Result X Y) → (P → Q) → OnOk r P → OnOk r Q
on-ok (Ok x) f p = f p
on-ok (Err e) f p = p

pub returns-clause-ok : goal.returns-clause-ok
returns-clause-ok c =
    let inside = page-inside c.self.inside.unset (contents c.self.inside.pages.items) c.self.invariant.whole c.args.at (subst (λ l. c.args.at < length l) (sym c.self.view_is) c.requires) in
    let read = read-page c.self.inside.pages.items (c.args.at / page_len) c.index_mut-page.result.now inside c.index_mut-page.ensures.value in
    rw (sym c.self.view_is) (on-ok c.set_number.result
    (λ (one : SetsOne c.self.inside.unset (c.args.at / page_len * page_len) (c.args.at % page_len) c.args.number (content c.index_mut-page.result.now) (content c.set_number.new.page)).
    sets-page c.self.inside.unset c.self.inside.pages.items c.self.invariant c.args.at c.args.number c.index_mut-page.result.now c.set_number.new.page inside read c.set_number.ensures.page one)
    c.set_number.ensures.ok)

on-err : {X Y : Type 0} {P Q : Type 0} (r : Result X Y) → (P → Q) → OnErr r P → OnErr r Q
on-err (Ok x) f p = p
on-err (Err e) f p = f p

pub returns-clause-err : goal.returns-clause-err
returns-clause-err c =
    on-err c.set_number.result
    (λ (same : content c.set_number.new.page ≡ content c.index_mut-page.result.now).
    ap (λ l. numbers_from c.self.inside.unset 0 l)
    (map-set_same content c.self.inside.pages.items (c.args.at / page_len) c.set_number.new.page c.index_mut-page.result.now (same ∙ ap (λ p. content p) c.index_mut-page.ensures.value))
    ∙ c.self.view_is)
    c.set_number.ensures.err

use Rattle.std.proofs.Common.{◌<◌, ◌*◌, ◌/◌, ◌%◌, length, Ok, Err, OnOk, Result, sym, subst, arith}
use Rattle.taint_pages.specs.Pages.{IsPage, PutsIn, content, contents, page_len}
use Rattle.taint_pages.proofs.Flat.{page-inside, place-fits, place-inside, read-page, long-page, puts-page, sound-set}
use Rattle.taint_pages.proofs.numbers.SetNumbers.put_in_page.Goals as goal

pub index_mut-page-requires : goal.index_mut-page-requires
index_mut-page-requires c =
    let inside = place-inside c.self.inside.unset c.self.inside.pages.items c.self.invariant c.args.at (subst (λ l. c.args.at < length l) (sym c.self.view_is) c.requires.there) in
    omega (arith, inside, c.self.inside.pages.ok)

pub put_numbers-requires-clause-page : goal.put_numbers-requires-clause-page
put_numbers-requires-clause-page c =
    let inside = page-inside c.self.inside.unset (contents c.self.inside.pages.items) c.self.invariant.whole c.args.at (subst (λ l. c.args.at < length l) (sym c.self.view_is) c.requires.there) in
    subst (λ p. IsPage p) (sym (read-page c.self.inside.pages.items (c.args.at / page_len) c.index_mut-page.result.now inside c.index_mut-page.ensures.value)) (c.self.invariant.whole (c.args.at / page_len))

pub put_numbers-requires-clause-fits : goal.put_numbers-requires-clause-fits
put_numbers-requires-clause-fits c =
    place-fits c.self.inside.unset (contents c.self.inside.pages.items) c.self.invariant c.args.at (page-inside c.self.inside.unset (contents c.self.inside.pages.items) c.self.invariant.whole c.args.at (subst (λ l. c.args.at < length l) (sym c.self.view_is) c.requires.there))

pub invariant_of-self : goal.invariant_of-self
invariant_of-self c = sound-set c.self.inside.unset c.self.inside.pages.items (c.args.at / page_len) c.put_numbers.new.page c.self.invariant c.put_numbers.ensures.page

on-ok : {X Y : Type 0} {P Q : Type 0} (r : Result X Y) → (P → Q) → OnOk r P → OnOk r Q
on-ok (Ok x) f p = f p
on-ok (Err e) f p = p

pub returns-clause-ok : goal.returns-clause-ok
returns-clause-ok c =
    let inside = page-inside c.self.inside.unset (contents c.self.inside.pages.items) c.self.invariant.whole c.args.at (subst (λ l. c.args.at < length l) (sym c.self.view_is) c.requires.there) in
    let read = read-page c.self.inside.pages.items (c.args.at / page_len) c.index_mut-page.result.now inside c.index_mut-page.ensures.value in
    rw (sym c.self.view_is) (on-ok c.put_numbers.result
    (λ (put : PutsIn c.self.inside.unset (c.args.at / page_len * page_len) (c.args.at % page_len) c.args.numbers.now (content c.index_mut-page.result.now) (content c.put_numbers.new.page)).
    puts-page c.self.inside.unset c.self.inside.pages.items c.self.invariant c.args.at c.args.numbers.now c.index_mut-page.result.now c.put_numbers.new.page inside c.requires.inside read c.put_numbers.ensures.page put)
    c.put_numbers.ensures.ok)

pub returns-clause-len : goal.returns-clause-len
returns-clause-len c = rw (sym c.self.view_is) (long-page c.self.inside.unset c.self.inside.pages.items c.self.invariant (c.args.at / page_len) c.put_numbers.new.page c.put_numbers.ensures.page)

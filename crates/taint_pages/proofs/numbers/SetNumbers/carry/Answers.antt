use Rattle.std.proofs.Common.{Err, Ok, OnOk, Result, sym}
use Rattle.taint_pages.specs.Carried.{CarriesPages}
use Rattle.taint_pages.specs.Pages.{contents}
use Rattle.taint_pages.proofs.Carrying.{carries-numbers}
use Rattle.taint_pages.proofs.numbers.SetNumbers.carry.Goals as goal

on-ok : {X Y : Type 0} {P Q : Type 0} (r : Result X Y) → (P → Q) → OnOk r P → OnOk r Q
on-ok (Ok x) f p = f p
on-ok (Err e) f p = p

pub returns-clause-numbers : goal.returns-clause-numbers
returns-clause-numbers c =
    let old = contents c.self.inside.pages.items in
    let new = contents c.carry_pages.new.pages.items in
    rw (sym c.self.view_is) (on-ok c.carry_pages.result
    (λ (carries : CarriesPages c.carry_pages.new.carrying c.self.inside.unset old new).
    carries-numbers c.carry_pages.new.carrying c.self.inside.unset old new c.self.invariant c.carry_pages.ensures.sound carries)
    c.carry_pages.ensures.carried)

use Rattle.std.proofs.Common.{◌∙◌, Result, Ok, Err, OnOk, ℕ, ◌==◌, sym, ap}
use Rattle.std.specs.List.{position_or_len}
use Rattle.std.proofs.lemmas.Result.{IfOk-weaker}
use Rattle.guest_states.proofs.Numbers.{place-new}
use Rattle.guest_states.proofs.Told.{adds-found, adds-new}
use Rattle.guest_states.proofs.held.Held.number.Goals as goal

always : {T E P : Type 0} (r : Result T E) → P → OnOk r P
always (Ok x) p = p
always (Err e) p = tt

pub returns-in-Some-clause-adds : goal.returns-in-Some-clause-adds
returns-in-Some-clause-adds c =
    always c.number_of.result (adds-found c.args.self.now c.args.made c.in-Some.place c.args.blocks (sym c.in-Some.ensures))

pub returns-in_ok-push-in-None-clause-adds : goal.returns-in_ok-push-in-None-clause-adds
returns-in_ok-push-in-None-clause-adds c =
    let more = c.in_ok-push-in-None.ensures in
    always c.number_of-in-None.result
    (adds-new c.args.self.now c.push.new.self c.args.made c.args.blocks (sym c.in-None.ensures) more.names more.memories)

pub returns-in_ok-push-in-None-clause-number : goal.returns-in_ok-push-in-None-clause-number
returns-in_ok-push-in-None-clause-number c =
    let more = c.in_ok-push-in-None.ensures in
    IfOk-weaker c.number_of-in-None.result _ _
    (λ number e.
    e
    ∙ (more.place
    ∙ (place-new c.args.self.now.names.items c.args.made (sym c.in-None.ensures) ∙ ap (position_or_len (λ (n : ℕ). n == c.args.made)) (sym more.names))))
    c.number_of-in-None.ensures

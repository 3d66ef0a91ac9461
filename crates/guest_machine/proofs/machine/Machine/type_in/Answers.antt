use Rattle.std.proofs.Common.{◌+◌, ◌++◌, ◌∷◌, [], ◌∙◌, ◌≡◌, List, ℕ, ap, refl, subst, sym}
use Rattle.std.proofs.lemmas.Result.{err_from_is_err_and}
use Rattle.arn_base.specs.declared.records.Record.{Record}
use Rattle.arn_base.specs.declared.records.Record.TheVariants as entry
use Rattle.arn_model.specs.Run.{typed_step}
use Rattle.guest_calls.specs.State.{Becomes}
use Rattle.guest_machine.specs.Recorded.{IsReal, Recorded}
use Rattle.guest_machine.proofs.MachineLemmas.{becomes-next, becomes-real}
use Rattle.guest_machine.proofs.Outside.{next-event, runs-typed, same-recorded, where-err, where-ok}
use Rattle.guest_machine.proofs.Refused.{memory-not-booted, memory-only}
use Rattle.guest_machine.proofs.RunsLemmas.{on_err, spelled-push}
use Rattle.guest_machine.proofs.machine.Machine.type_in.Goals as goal

-- the kernel took the piece, and its record stands behind the others
typed : (c : goal.In_ok-push_after) → Becomes c.self.inside.kernel (λ m. (typed_step m c.args.bytes.now).after) c.type_in-typed.new.self
typed c = where-ok c.type_in-typed.result c.push_after.result c.in_ok-push_after.field-0 _ c.push_after.ensures.same c.in_ok-push_after.was c.type_in-typed.ensures.typed

pushed : (c : goal.In_ok-push_after) → c.push_after.new.out.items ≡ c.args.out.now.items ++ entry.Typed c.args.bytes.now ∷ []
pushed c =
    c.in_ok-push_after.ensures.ok
    ∙ ap (λ (xs : List Record). xs ++ entry.Typed c.in_ok-held.held ∷ []) c.in_ok-reserve.ensures.items
    ∙ ap (λ (bytes : List ℕ). c.args.out.now.items ++ entry.Typed bytes ∷ []) c.in_ok-held.ensures

pub invariant_of-self-2 : goal.invariant_of-self-2
invariant_of-self-2 c = becomes-real c.self.inside.kernel c.type_in-typed.new.self (λ m. (typed_step m c.args.bytes.now).after) c.self.invariant (typed c)

pub returns-clause-next : goal.returns-clause-next
returns-clause-next c =
    becomes-next c.self.inside.kernel c.type_in-typed.new.self (λ m. (typed_step m c.args.bytes.now).after) c.self.invariant (λ m. refl) (typed c)
    ∙ ap (λ (r : Recorded). r.kernel.events + 1) c.self.view_is

pub returns-clause-runs : goal.returns-clause-runs
returns-clause-runs c =
    runs-typed c.self.inside.kernel c.type_in-typed.new.self c.self.inside.instructions c.args.self.now c.args.out.now.items c.push_after.new.out.items c.self.view_is c.args.bytes.now
    (sym c.is_booted.ensures ∙ c.if-not-is_booted.false) (typed c) (pushed c)

pub returns-clause-spelled : goal.returns-clause-spelled
returns-clause-spelled c all = spelled-push c.args.out.now.items c.push_after.new.out.items (entry.Typed c.args.bytes.now) c.requires.bytes (pushed c) all

-- the kernel stands as it stood
stays : (c : goal.After-from_residual-in_err-push_after) → c.type_in-typed.new.self ≡ c.self.inside.kernel
stays c = where-err c.type_in-typed.result c.push_after.result c.in_err-push_after.field-0.0 _ c.push_after.ensures.same c.in_err-push_after.was c.type_in-typed.ensures.err

pub type_in-typed-requires-clause-next : goal.type_in-typed-requires-clause-next
type_in-typed-requires-clause-next c = next-event c.self.inside.kernel c.events-event.result c.self.inside.instructions c.args.self.now c.self.view_is c.events-event.ensures c.requires.room.events

pub type_in-typed-requires-clause-few : goal.type_in-typed-requires-clause-few
type_in-typed-requires-clause-few c = c.requires.bytes

pub invariant_of-self : goal.invariant_of-self
invariant_of-self c = subst IsReal (sym (stays c)) c.self.invariant

pub returns-clause-event : goal.returns-clause-event
returns-clause-event c = c.events-event.ensures ∙ ap (λ (r : Recorded). r.kernel.events) c.self.view_is

pub returns-in_err-push_after-clause-not_booted : goal.returns-in_err-push_after-clause-not_booted
returns-in_err-push_after-clause-not_booted c =
    let p = err_from_is_err_and c.from_residual-in_err-push_after.result c.from_residual-in_err-push_after.ensures.1 in
    memory-not-booted c.from_residual-in_err-push_after.result p.0 p.1 p.2 _ (sym c.is_booted.ensures ∙ c.if-not-is_booted.false)

pub returns-in_err-push_after-clause-only : goal.returns-in_err-push_after-clause-only
returns-in_err-push_after-clause-only c =
    let p = err_from_is_err_and c.from_residual-in_err-push_after.result c.from_residual-in_err-push_after.ensures.1 in
    memory-only c.from_residual-in_err-push_after.result p.0 p.1 p.2

pub returns-in_err-push_after-clause-err : goal.returns-in_err-push_after-clause-err
returns-in_err-push_after-clause-err c = on_err _ _ c.from_residual-in_err-push_after.result _ (same-recorded c.self.inside.kernel c.type_in-typed.new.self c.self.inside.instructions c.args.self.now c.self.view_is (stays c))

pub returns-in_err-push_after-clause-unrecorded : goal.returns-in_err-push_after-clause-unrecorded
returns-in_err-push_after-clause-unrecorded c = on_err _ _ c.from_residual-in_err-push_after.result _ (c.in_err-push_after.ensures.err ∙ c.in_ok-reserve.ensures.items)

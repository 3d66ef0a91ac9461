use Rattle.std.proofs.Common.{◌≡◌, ◌+◌, ◌<◌, ◌^◌, ◌++◌, ◌∷◌, [], ◌∙◌, List, Ok, true, ap, refl, subst, sym}
use Rattle.std.proofs.lemmas.Result.{err_from_is_err_and}
use Rattle.arn_base.specs.declared.records.Record.{Record}
use Rattle.arn_base.specs.declared.records.Record.TheVariants as entry
use Rattle.arn_model.specs.Run.{unplug_step}
use Rattle.arn_model.specs.TransferCalls.{was_unplugged}
use Rattle.guest_machine.specs.Recorded.{IsReal, Recorded}
use Rattle.guest_machine.proofs.MachineLemmas.{becomes-next, becomes-real, is-added}
use Rattle.guest_machine.proofs.Outside.{runs-unplug, same-recorded}
use Rattle.guest_machine.proofs.Refused.{done-no-device, memory-no-device, memory-not-booted, memory-unplug-only}
use Rattle.guest_machine.proofs.RunsLemmas.{on_err, spelled-push}
use Rattle.guest_machine.proofs.machine.Machine.unplug_number.Goals as goal

-- the kernel adds the number
done : (c : goal.After-push_reserved) → c.unplug.result ≡ Ok true
done c =
    is-added c.unplug.result c.in_ok-unplug.field-0 (was_unplugged c.self.inside.kernel.kernel c.args.device) c.in_ok-unplug.was c.unplug.ensures.before.0 (sym c.was_unplugged.ensures ∙ c.if-was_unplugged.false)

pub invariant_of-self-2 : goal.invariant_of-self-2
invariant_of-self-2 c = becomes-real c.self.inside.kernel c.unplug.new.self (λ m. (unplug_step m c.args.device).after) c.self.invariant (c.unplug.ensures.unplugged (done c))

pub returns-clause-next : goal.returns-clause-next
returns-clause-next c =
    becomes-next c.self.inside.kernel c.unplug.new.self (λ m. (unplug_step m c.args.device).after) c.self.invariant (λ m. refl) (c.unplug.ensures.unplugged (done c))
    ∙ ap (λ (r : Recorded). r.kernel.events + 1) c.self.view_is

pushed : (c : goal.After-push_reserved) → c.push_reserved.new.self.items ≡ c.args.out.now.items ++ entry.Unplug c.args.device ∷ []
pushed c = c.push_reserved.ensures.items ∙ ap (λ (xs : List Record). xs ++ entry.Unplug c.args.device ∷ []) c.in_ok-reserve.ensures.items

pub returns-clause-runs : goal.returns-clause-runs
returns-clause-runs c =
    runs-unplug c.self.inside.kernel c.unplug.new.self c.self.inside.instructions c.args.self.now c.args.out.now.items c.push_reserved.new.self.items c.self.view_is c.args.device
    (sym c.is_booted.ensures ∙ c.if-not-is_booted.false) (sym c.was_unplugged.ensures ∙ c.if-was_unplugged.false) (c.unplug.ensures.unplugged (done c)) (pushed c)

pub returns-clause-spelled : goal.returns-clause-spelled
returns-clause-spelled c all = spelled-push c.args.out.now.items c.push_reserved.new.self.items (entry.Unplug c.args.device) tt (pushed c) all

pub invariant_of-self : goal.invariant_of-self
invariant_of-self c = subst IsReal (sym c.in_err-unplug.ensures.err) c.self.invariant

pub unplug-requires : goal.unplug-requires
unplug-requires c = record { room = subst (λ (r : Recorded). r.kernel.events + 1 < 2 ^ 64) (sym c.self.view_is) c.requires.room.events }

pub returns-in_err-unplug-clause-not_booted : goal.returns-in_err-unplug-clause-not_booted
returns-in_err-unplug-clause-not_booted c =
    let p = err_from_is_err_and c.from_residual-in_err-unplug.result c.from_residual-in_err-unplug.ensures.1 in
    memory-not-booted c.from_residual-in_err-unplug.result p.0 p.1 p.2 _ (sym c.is_booted.ensures ∙ c.if-not-is_booted.false)

pub returns-in_err-unplug-clause-only : goal.returns-in_err-unplug-clause-only
returns-in_err-unplug-clause-only c =
    let p = err_from_is_err_and c.from_residual-in_err-unplug.result c.from_residual-in_err-unplug.ensures.1 in
    memory-unplug-only c.from_residual-in_err-unplug.result p.0 p.1 p.2

pub returns-in_err-reserve-clause-not_booted : goal.returns-in_err-reserve-clause-not_booted
returns-in_err-reserve-clause-not_booted c =
    let p = err_from_is_err_and c.from_residual.result c.from_residual.ensures.1 in
    memory-not-booted c.from_residual.result p.0 p.1 p.2 _ (sym c.is_booted.ensures ∙ c.if-not-is_booted.false)

pub returns-in_err-reserve-clause-only : goal.returns-in_err-reserve-clause-only
returns-in_err-reserve-clause-only c =
    let p = err_from_is_err_and c.from_residual.result c.from_residual.ensures.1 in
    memory-unplug-only c.from_residual.result p.0 p.1 p.2

pub returns-in_err-unplug-clause-no_device : goal.returns-in_err-unplug-clause-no_device
returns-in_err-unplug-clause-no_device c =
    let p = err_from_is_err_and c.from_residual-in_err-unplug.result c.from_residual-in_err-unplug.ensures.1 in
    memory-no-device c.from_residual-in_err-unplug.result p.0 p.1 p.2 _ _ (ap (λ (r : Recorded). was_unplugged r.kernel.kernel c.args.device) (sym c.self.view_is) ∙ sym c.was_unplugged.ensures ∙ c.if-was_unplugged.false)

pub returns-in_err-reserve-clause-no_device : goal.returns-in_err-reserve-clause-no_device
returns-in_err-reserve-clause-no_device c =
    let p = err_from_is_err_and c.from_residual.result c.from_residual.ensures.1 in
    memory-no-device c.from_residual.result p.0 p.1 p.2 _ _ (ap (λ (r : Recorded). was_unplugged r.kernel.kernel c.args.device) (sym c.self.view_is) ∙ sym c.was_unplugged.ensures ∙ c.if-was_unplugged.false)

pub returns-in_err-unplug-clause-err : goal.returns-in_err-unplug-clause-err
returns-in_err-unplug-clause-err c = on_err _ _ c.from_residual-in_err-unplug.result _ (same-recorded c.self.inside.kernel c.unplug.new.self c.self.inside.instructions c.args.self.now c.self.view_is c.in_err-unplug.ensures.err)

pub returns-in_err-unplug-clause-unrecorded : goal.returns-in_err-unplug-clause-unrecorded
returns-in_err-unplug-clause-unrecorded c = on_err _ _ c.from_residual-in_err-unplug.result _ c.in_ok-reserve.ensures.items

pub returns-in_err-reserve-clause-unrecorded : goal.returns-in_err-reserve-clause-unrecorded
returns-in_err-reserve-clause-unrecorded c = on_err _ _ c.from_residual.result _ c.in_err-reserve.ensures.items

pub returns-clause-no_device : goal.returns-clause-no_device
returns-clause-no_device c = done-no-device _ _ _ _ refl (ap (λ (r : Recorded). was_unplugged r.kernel.kernel c.args.device) (sym c.self.view_is) ∙ sym c.was_unplugged.ensures ∙ c.if-was_unplugged.false)

pub returns-clause-event : goal.returns-clause-event
returns-clause-event c = c.events-event.ensures ∙ ap (λ (r : Recorded). r.kernel.events) c.self.view_is

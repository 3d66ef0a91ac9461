use Rattle.std.proofs.Common.{◌≡◌, ℕ, ◌+◌, ◌<◌, ◌^◌, ◌++◌, ◌∙◌, List, [], ◌∷◌, Err, ap, subst, sym}
use Rattle.std.specs.Prelude.{IsNone}
use Rattle.std.proofs.lemmas.Result.{err_from_is_err_and}
use Rattle.arn_base.specs.declared.records.Record.{Record}
use Rattle.arn_base.specs.declared.records.Record.TheVariants as entry
use Rattle.parts_model.specs.Files.{find_file}
use Rattle.guest_calls.specs.Starts.{HasNoImage}
use Rattle.guest_machine.specs.Recorded.{IsReal, Recorded}
use Rattle.guest_machine.specs.Refusals.{as_machine_error}
use Rattle.guest_machine.proofs.MachineLemmas.{boot-next, boot-real, named}
use Rattle.guest_machine.proofs.Outside.{no-process, runs-boot, same-recorded}
use Rattle.guest_machine.proofs.Refused.{boot-no-name, boot-not-booted, boot-not-image, boot-only, memory-booted, memory-image, memory-name}
use Rattle.guest_machine.proofs.RunsLemmas.{on_err, spelled-push}
use Rattle.guest_machine.proofs.Spelled.{few-spelled}
use Rattle.guest_machine.proofs.machine.Machine.boot.Goals as goal

pub invariant_of-self-2 : goal.invariant_of-self-2
invariant_of-self-2 c = boot-real c.self.inside.kernel c.boot.new.self c.args.name.now c.in_ok-give.give c.self.invariant c.in_ok-give.ensures.booted

pub returns-clause-next : goal.returns-clause-next
returns-clause-next c =
    boot-next c.self.inside.kernel c.boot.new.self c.args.name.now c.in_ok-give.give c.self.invariant c.in_ok-give.ensures.booted
    ∙ ap (λ (r : Recorded). r.kernel.events + 1) c.self.view_is

pushed : (c : goal.After-push_reserved) → c.push_reserved.new.self.items ≡ c.args.out.now.items ++ entry.Boot c.args.name.now c.in_ok-give.give ∷ []
pushed c =
    c.push_reserved.ensures.items
    ∙ ap (λ (xs : List Record). xs ++ entry.Boot c.in_ok-held.held c.in_ok-give.give ∷ []) c.in_ok-reserve.ensures.items
    ∙ ap (λ (name : List ℕ). c.args.out.now.items ++ entry.Boot name c.in_ok-give.give ∷ []) c.in_ok-held.ensures

pub returns-clause-runs : goal.returns-clause-runs
returns-clause-runs c =
    runs-boot c.self.inside.kernel c.boot.new.self c.self.inside.instructions c.args.self.now c.args.out.now.items c.push_reserved.new.self.items c.self.view_is c.args.name.now c.in_ok-give.give
    (sym c.is_booted.ensures ∙ c.if-is_booted.false) c.in_ok-give.ensures.booted (pushed c)

pub returns-clause-spelled : goal.returns-clause-spelled
returns-clause-spelled c all =
    spelled-push c.args.out.now.items c.push_reserved.new.self.items (entry.Boot c.args.name.now c.in_ok-give.give)
    (named c.args.name.now c.requires.name, few-spelled c.in_ok-give.give c.in_ok-give.ensures.few_bytes c.in_ok-give.ensures.few_origins) (pushed c) all

-- why the kernel refused it
told : (c : goal.After-drop-held-inside) → c.from_residual-in_err-give.result ≡ Err (as_machine_error c.in_err-give.field-0.0)
told c =
    let p = err_from_is_err_and c.from_residual-in_err-give.result c.from_residual-in_err-give.ensures.1 in
    p.1 ∙ ap Err p.2

pub boot-requires-clause-no_process : goal.boot-requires-clause-no_process
boot-requires-clause-no_process c = no-process c.self.inside.kernel c.self.inside.instructions c.args.self.now c.self.view_is (sym c.is_booted.ensures ∙ c.if-is_booted.false)

pub boot-requires-clause-room : goal.boot-requires-clause-room
boot-requires-clause-room c = subst (λ (r : Recorded). r.kernel.events + 1 < 2 ^ 64) (sym c.self.view_is) c.requires.room.events

pub invariant_of-self : goal.invariant_of-self
invariant_of-self c = subst IsReal (sym c.in_err-give.ensures.err) c.self.invariant

pub returns-in_err-give-clause-booted : goal.returns-in_err-give-clause-booted
returns-in_err-give-clause-booted c = boot-not-booted c.from_residual-in_err-give.result c.in_err-give.field-0.0 (told c) _ (sym c.is_booted.ensures ∙ c.if-is_booted.false)

pub returns-in_err-give-clause-only : goal.returns-in_err-give-clause-only
returns-in_err-give-clause-only c = boot-only c.from_residual-in_err-give.result c.in_err-give.field-0.0 (told c)

pub returns-in_err-give-clause-err : goal.returns-in_err-give-clause-err
returns-in_err-give-clause-err c = on_err _ _ c.from_residual-in_err-give.result _ (same-recorded c.self.inside.kernel c.boot.new.self c.self.inside.instructions c.args.self.now c.self.view_is c.in_err-give.ensures.err)

pub returns-in_err-give-clause-unrecorded : goal.returns-in_err-give-clause-unrecorded
returns-in_err-give-clause-unrecorded c = on_err _ _ c.from_residual-in_err-give.result _ c.in_ok-reserve.ensures.items

pub returns-in_err-give-clause-no_name : goal.returns-in_err-give-clause-no_name
returns-in_err-give-clause-no_name c is =
    subst (λ (r : Recorded). IsNone (find_file r.kernel.kernel.files c.args.name.now)) c.self.view_is
    (c.boot.ensures.no_name.0 (c.in_err-give.was ∙ ap Err (boot-no-name c.from_residual-in_err-give.result c.in_err-give.field-0.0 (told c) is)))

pub returns-in_err-give-clause-not_image : goal.returns-in_err-give-clause-not_image
returns-in_err-give-clause-not_image c is =
    subst (λ (r : Recorded). HasNoImage c.args.name.now r.kernel) c.self.view_is
    (c.boot.ensures.not_image (c.in_err-give.was ∙ ap Err (boot-not-image c.from_residual-in_err-give.result c.in_err-give.field-0.0 (told c) is)))

pub returns-clause-event : goal.returns-clause-event
returns-clause-event c = c.events-event.ensures ∙ ap (λ (r : Recorded). r.kernel.events) c.self.view_is

pub returns-in_err-reserve-clause-booted : goal.returns-in_err-reserve-clause-booted
returns-in_err-reserve-clause-booted c =
    let p = err_from_is_err_and c.from_residual.result c.from_residual.ensures.1 in
    memory-booted c.from_residual.result p.0 p.1 p.2 _ (sym c.is_booted.ensures ∙ c.if-is_booted.false)

pub returns-in_err-reserve-clause-unrecorded : goal.returns-in_err-reserve-clause-unrecorded
returns-in_err-reserve-clause-unrecorded c = on_err _ _ c.from_residual.result _ c.in_err-reserve.ensures.items

pub returns-in_err-reserve-clause-no_name : goal.returns-in_err-reserve-clause-no_name
returns-in_err-reserve-clause-no_name c is =
    let p = err_from_is_err_and c.from_residual.result c.from_residual.ensures.1 in
    absurd (memory-name c.from_residual.result p.0 p.1 p.2 is)

pub returns-in_err-reserve-clause-not_image : goal.returns-in_err-reserve-clause-not_image
returns-in_err-reserve-clause-not_image c is =
    let p = err_from_is_err_and c.from_residual.result c.from_residual.ensures.1 in
    absurd (memory-image c.from_residual.result p.0 p.1 p.2 is)

pub returns-in_err-held-clause-booted : goal.returns-in_err-held-clause-booted
returns-in_err-held-clause-booted c =
    let p = err_from_is_err_and c.from_residual-in_err-held.result c.from_residual-in_err-held.ensures.1 in
    memory-booted c.from_residual-in_err-held.result p.0 p.1 p.2 _ (sym c.is_booted.ensures ∙ c.if-is_booted.false)

pub returns-in_err-held-clause-unrecorded : goal.returns-in_err-held-clause-unrecorded
returns-in_err-held-clause-unrecorded c = on_err _ _ c.from_residual-in_err-held.result _ c.in_ok-reserve.ensures.items

pub returns-in_err-held-clause-no_name : goal.returns-in_err-held-clause-no_name
returns-in_err-held-clause-no_name c is =
    let p = err_from_is_err_and c.from_residual-in_err-held.result c.from_residual-in_err-held.ensures.1 in
    absurd (memory-name c.from_residual-in_err-held.result p.0 p.1 p.2 is)

pub returns-in_err-held-clause-not_image : goal.returns-in_err-held-clause-not_image
returns-in_err-held-clause-not_image c is =
    let p = err_from_is_err_and c.from_residual-in_err-held.result c.from_residual-in_err-held.ensures.1 in
    absurd (memory-image c.from_residual-in_err-held.result p.0 p.1 p.2 is)

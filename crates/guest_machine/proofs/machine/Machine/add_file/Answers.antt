use Rattle.std.proofs.Common.{◌+◌, ◌++◌, ◌∷◌, [], ◌∙◌, ◌≡◌, true, false, List, Err, ap, refl, subst, sym}
use Rattle.std.proofs.lemmas.Result.{err_from_is_err_and}
use Rattle.arn_base.specs.declared.records.Record.{Record}
use Rattle.arn_base.specs.declared.records.Record.TheVariants as entry
use Rattle.arn_model.specs.Run.{file_step, is_free}
use Rattle.guest_calls.specs.State.{Becomes}
use Rattle.guest_machine.specs.Recorded.{IsReal, Recorded}
use Rattle.guest_machine.specs.Refusals.{of_file}
use Rattle.guest_machine.proofs.MachineLemmas.{becomes-next, becomes-real, named}
use Rattle.guest_machine.proofs.Outside.{few-counted, file-no-name, file-not-booted, file-only, free-of, next-event, no-process, runs-file, same-recorded, where-err, where-ok}
use Rattle.guest_machine.proofs.RunsLemmas.{on_err, spelled-push}
use Rattle.guest_machine.proofs.machine.Machine.add_file.Goals as goal

pub add_file-added-requires-clause-no_process : goal.add_file-added-requires-clause-no_process
add_file-added-requires-clause-no_process c = no-process c.self.inside.kernel c.self.inside.instructions c.args.self.now c.self.view_is (sym c.is_booted.ensures ∙ c.if-is_booted.false)

pub add_file-added-requires-clause-next : goal.add_file-added-requires-clause-next
add_file-added-requires-clause-next c = next-event c.self.inside.kernel c.events-event.result c.self.inside.instructions c.args.self.now c.self.view_is c.events-event.ensures c.requires.room.events

-- the kernel added the file, and its record stands behind the others
added : (c : goal.In_ok-push_after) → Becomes c.self.inside.kernel (λ m. (file_step m c.args.name.now c.args.bytes.now).after) c.add_file-added.new.self
added c = where-ok c.add_file-added.result c.push_after.result c.in_ok-push_after.field-0 _ c.push_after.ensures.same c.in_ok-push_after.was c.add_file-added.ensures.added

pushed : (c : goal.In_ok-push_after) → c.push_after.new.out.items ≡ c.args.out.now.items ++ entry.File c.args.name.now c.args.bytes.now ∷ []
pushed c =
    c.in_ok-push_after.ensures.ok
    ∙ ap (λ (xs : List Record). xs ++ c.in_ok-entry.entry ∷ []) c.in_ok-reserve.ensures.items
    ∙ ap (λ (e : Record). c.args.out.now.items ++ e ∷ []) c.in_ok-entry.ensures

free : (c : goal.In_ok-push_after) → is_free c.self.inside.kernel.kernel.files c.args.name.now ≡ true
free c =
    free-of c.add_file-added.result c.in_ok-push_after.field-0 c.self.inside.kernel.kernel.files c.args.name.now (sym c.push_after.ensures.same ∙ c.in_ok-push_after.was)
    c.add_file-added.ensures.exists c.add_file-added.ensures.too_many

pub invariant_of-self-2 : goal.invariant_of-self-2
invariant_of-self-2 c = becomes-real c.self.inside.kernel c.add_file-added.new.self (λ m. (file_step m c.args.name.now c.args.bytes.now).after) c.self.invariant (added c)

pub returns-clause-event : goal.returns-clause-event
returns-clause-event c = c.events-event.ensures ∙ ap (λ (r : Recorded). r.kernel.events) c.self.view_is

pub returns-clause-next : goal.returns-clause-next
returns-clause-next c =
    becomes-next c.self.inside.kernel c.add_file-added.new.self (λ m. (file_step m c.args.name.now c.args.bytes.now).after) c.self.invariant (λ m. refl) (added c)
    ∙ ap (λ (r : Recorded). r.kernel.events + 1) c.self.view_is

pub returns-clause-free : goal.returns-clause-free
returns-clause-free c = subst (λ (r : Recorded). is_free r.kernel.kernel.files c.args.name.now ≡ true) c.self.view_is (free c)

pub returns-clause-runs : goal.returns-clause-runs
returns-clause-runs c =
    runs-file c.self.inside.kernel c.add_file-added.new.self c.self.inside.instructions c.args.self.now c.args.out.now.items c.push_after.new.out.items c.self.view_is c.args.name.now c.args.bytes.now
    (sym c.is_booted.ensures ∙ c.if-is_booted.false) (free c) c.requires.name c.requires.bytes (added c) (pushed c)

pub returns-clause-spelled : goal.returns-clause-spelled
returns-clause-spelled c all =
    spelled-push c.args.out.now.items c.push_after.new.out.items (entry.File c.args.name.now c.args.bytes.now) (named c.args.name.now c.requires.name, few-counted c.args.bytes.now c.requires.bytes) (pushed c) all

-- the kernel stands as it stood
stays : (c : goal.After-from_residual-in_err-push_after) → c.add_file-added.new.self ≡ c.self.inside.kernel
stays c = where-err c.add_file-added.result c.push_after.result c.in_err-push_after.field-0.0 _ c.push_after.ensures.same c.in_err-push_after.was c.add_file-added.ensures.err

told : (c : goal.After-from_residual-in_err-push_after) → c.from_residual-in_err-push_after.result ≡ Err (of_file c.in_err-push_after.field-0.0)
told c =
    let p = err_from_is_err_and c.from_residual-in_err-push_after.result c.from_residual-in_err-push_after.ensures.1 in
    p.1 ∙ ap Err p.2

pub invariant_of-self : goal.invariant_of-self
invariant_of-self c = subst IsReal (sym (stays c)) c.self.invariant

pub returns-in_err-push_after-clause-booted : goal.returns-in_err-push_after-clause-booted
returns-in_err-push_after-clause-booted c = file-not-booted c.from_residual-in_err-push_after.result c.in_err-push_after.field-0.0 (told c) _ (sym c.is_booted.ensures ∙ c.if-is_booted.false)

pub returns-in_err-push_after-clause-no_name : goal.returns-in_err-push_after-clause-no_name
returns-in_err-push_after-clause-no_name c is =
    let e = c.add_file-added.ensures in
    subst (λ (r : Recorded). is_free r.kernel.kernel.files c.args.name.now ≡ false) c.self.view_is
    (file-no-name c.from_residual-in_err-push_after.result c.in_err-push_after.field-0.0 (told c) c.add_file-added.result c.self.inside.kernel.kernel.files c.args.name.now c.args.bytes.now
    (sym c.push_after.ensures.same ∙ c.in_err-push_after.was) e.exists e.too_many e.too_long e.answers c.requires.bytes is)

pub returns-in_err-push_after-clause-only : goal.returns-in_err-push_after-clause-only
returns-in_err-push_after-clause-only c = file-only c.from_residual-in_err-push_after.result c.in_err-push_after.field-0.0 (told c)

pub returns-in_err-push_after-clause-err : goal.returns-in_err-push_after-clause-err
returns-in_err-push_after-clause-err c = on_err _ _ c.from_residual-in_err-push_after.result _ (same-recorded c.self.inside.kernel c.add_file-added.new.self c.self.inside.instructions c.args.self.now c.self.view_is (stays c))

pub returns-in_err-push_after-clause-unrecorded : goal.returns-in_err-push_after-clause-unrecorded
returns-in_err-push_after-clause-unrecorded c = on_err _ _ c.from_residual-in_err-push_after.result _ (c.in_err-push_after.ensures.err ∙ c.in_ok-reserve.ensures.items)

use Rattle.std.proofs.Common.{rules, ◌≡◌, ◌+◌, ◌<◌, ◌^◌, ℕ, All, length, Err, ap, refl, subst, sym, arith}
use Rattle.std.proofs.lemmas.List.Elements.{All-nil}
use Rattle.std.proofs.lemmas.Result.{IfOk-from_err, err_from_is_err_and}
use Rattle.arn_model.specs.Kernel.{Machine}
use Rattle.arn_model.specs.Run.{machine_after}
use Rattle.result_log.specs.Spelling.{HasSpelling}
use Rattle.guest_machine.specs.Recorded.{Recorded}
use Rattle.record_match.specs.declared.differs.RebuildError.{RebuildError}
use Rattle.record_match.specs.declared.differs.RebuildError.TheVariants as rebuild_error
use Rattle.guest_machine.proofs.Rebuilt.{IsRebuilt, IsRebuilt-leads, IsRebuilt-missing, IsRebuilt-more, IsRebuilt-none, IsRebuilt-room, IsRebuilt-steps, IsRebuilt-whole, IsMismatch-first, behind-is, few-next, no-error, no-memory}
use Rattle.guest_machine.proofs.machine.Machine.run_again.Goals as goal

pub loop-entry-init : goal.loop-entry-init
loop-entry-init g c = record {
  rebuilt = subst (λ (r : Recorded). IsRebuilt c.args.entries.now 0 r 0 c.args.steps.now c.args.steps.now) (sym c.requires.first) (IsRebuilt-none c.args.entries.now c.args.steps.now);
  place = refl;
}

pub run_named-requires-clause-room : goal.run_named-requires-clause-room
run_named-requires-clause-room g c =
    let short : length c.args.entries.now < 2 ^ 63 = search rules in
    IsRebuilt-room c.records_leave_room.ensures c.args.entries.now c.loop-entry.entry-index c.loop-entry.self c.loop-entry.matched c.args.steps.now c.loop-entry.steps c.loop-entry.invariant.rebuilt short

pub returns-in_err-run_named-clause-steps : goal.returns-in_err-run_named-clause-steps
returns-in_err-run_named-clause-steps g c =
    let so_far = c.loop-entry.invariant.rebuilt in
    few-next c.args.entries.now c.loop-entry.entry-index c.loop-entry.self c.loop-entry.matched c.args.steps.now c.loop-entry.steps so_far
    c.entry-item.result c.loop-entry-test.true c.entry-item.is _ (behind-is c.args.entries.now c.loop-entry.at c.loop-entry.entry-index c.loop-entry.invariant.place)
    c.run_named.new.steps (c.run_named.ensures.steps (machine_after so_far.inputs) so_far.after.leads)

pub returns-in_err-matched-clause-differs : goal.returns-in_err-matched-clause-differs
returns-in_err-matched-clause-differs g c d is_error =
    let so_far = c.loop-entry.invariant.rebuilt in
    let p = err_from_is_err_and c.from_residual-in_err-matched.result c.from_residual-in_err-matched.ensures.1 in
    let same : c.in_err-matched.field-0.0 ≡ rebuild_error.Differs d = cc (p.1, p.2, is_error) in
    let mismatch = c.in_err-matched.ensures.differs d (ap (λ (e : RebuildError). Err e) same) in
    IsMismatch-first c.args.entries.now c.loop-entry.entry-index c.loop-entry.self c.loop-entry.matched c.args.steps.now c.loop-entry.steps so_far
    c.entry-item.result c.loop-entry-test.true c.entry-item.is _ (behind-is c.args.entries.now c.loop-entry.at c.loop-entry.entry-index c.loop-entry.invariant.place)
    c.records_follow.ensures c.records_append.ensures c.run_named.new.machine c.clear.new.self.items c.run_named.new.out.items c.as_slice.result.now
    d (c.in_ok-run_named.ensures.runs (machine_after so_far.inputs) so_far.after.leads) c.clear.ensures.items c.as_slice.ensures.value mismatch

pub returns-in_err-matched-clause-steps : goal.returns-in_err-matched-clause-steps
returns-in_err-matched-clause-steps g c =
    let so_far = c.loop-entry.invariant.rebuilt in
    few-next c.args.entries.now c.loop-entry.entry-index c.loop-entry.self c.loop-entry.matched c.args.steps.now c.loop-entry.steps so_far
    c.entry-item.result c.loop-entry-test.true c.entry-item.is _ (behind-is c.args.entries.now c.loop-entry.at c.loop-entry.entry-index c.loop-entry.invariant.place)
    c.run_named.new.steps (c.run_named.ensures.steps (machine_after so_far.inputs) so_far.after.leads)

pub loop-entry-preserved : goal.loop-entry-preserved
loop-entry-preserved g c =
    let so_far = c.loop-entry.invariant.rebuilt in
    let m : Machine = machine_after so_far.inputs in
    record {
      rebuilt =
          IsRebuilt-more c.args.entries.now c.loop-entry.entry-index c.loop-entry.self c.loop-entry.matched c.args.steps.now c.loop-entry.steps so_far
          c.entry-item.result c.loop-entry-test.true c.entry-item.is _ (behind-is c.args.entries.now c.loop-entry.at c.loop-entry.entry-index c.loop-entry.invariant.place)
          c.runs_follow.ensures c.records_follow.ensures c.run_named.new.machine c.clear.new.self.items c.run_named.new.out.items c.as_slice.result.now
          c.in_ok-matched.matched c.run_named.new.steps (c.in_ok-run_named.ensures.runs m so_far.after.leads) c.clear.ensures.items c.as_slice.ensures.value c.in_ok-matched.ensures.ok (c.run_named.ensures.steps m so_far.after.leads);
      place = ap (λ (n : ℕ). n + 1) c.loop-entry.invariant.place;
    }

pub run_named-requires-clause-entry : goal.run_named-requires-clause-entry
run_named-requires-clause-entry g c = subst HasSpelling (sym c.entry-item.is) (c.requires.spelled c.loop-entry.entry-index c.entry-item.result c.loop-entry-test.true)

pub returns-in_err-run_named-clause-leads : goal.returns-in_err-run_named-clause-leads
returns-in_err-run_named-clause-leads g c = IfOk-from_err c.from_residual.result _ c.from_residual.ensures.0

pub returns-in_err-run_named-clause-is_run : goal.returns-in_err-run_named-clause-is_run
returns-in_err-run_named-clause-is_run g c = IfOk-from_err c.from_residual.result _ c.from_residual.ensures.0

pub returns-in_err-run_named-clause-differs : goal.returns-in_err-run_named-clause-differs
returns-in_err-run_named-clause-differs g c d is_error =
    let p = err_from_is_err_and c.from_residual.result c.from_residual.ensures.1 in
    absurd (no-memory c.from_residual.result p.0 d p.1 p.2 is_error)

pub match_records-requires-clause-within : goal.match_records-requires-clause-within
match_records-requires-clause-within g c = c.loop-entry.invariant.rebuilt.within

pub match_records-requires-clause-said : goal.match_records-requires-clause-said
match_records-requires-clause-said g c = c.requires.spelled

pub match_records-requires-clause-found : goal.match_records-requires-clause-found
match_records-requires-clause-found g c =
    subst (All HasSpelling) (sym c.as_slice.ensures.value) (c.in_ok-run_named.ensures.spelled (subst (All HasSpelling) (sym c.clear.ensures.items) (All-nil HasSpelling)))

pub returns-in_err-matched-clause-leads : goal.returns-in_err-matched-clause-leads
returns-in_err-matched-clause-leads g c = IfOk-from_err c.from_residual-in_err-matched.result _ c.from_residual-in_err-matched.ensures.0

pub returns-in_err-matched-clause-is_run : goal.returns-in_err-matched-clause-is_run
returns-in_err-matched-clause-is_run g c = IfOk-from_err c.from_residual-in_err-matched.result _ c.from_residual-in_err-matched.ensures.0

pub loop-entry-smaller : goal.loop-entry-smaller
loop-entry-smaller g c = omega (arith, c.loop-entry-test.true)

pub first_missing-requires-clause-more : goal.first_missing-requires-clause-more
first_missing-requires-clause-more g c = c.if-matched-entries.true

pub first_missing-requires-clause-spelled : goal.first_missing-requires-clause-spelled
first_missing-requires-clause-spelled g c = c.requires.spelled

pub returns-in_err-missing-clause-leads : goal.returns-in_err-missing-clause-leads
returns-in_err-missing-clause-leads g c = IfOk-from_err c.from_residual-in_err-missing.result _ c.from_residual-in_err-missing.ensures.0

pub returns-in_err-missing-clause-is_run : goal.returns-in_err-missing-clause-is_run
returns-in_err-missing-clause-is_run g c = IfOk-from_err c.from_residual-in_err-missing.result _ c.from_residual-in_err-missing.ensures.0

pub returns-in_err-missing-clause-differs : goal.returns-in_err-missing-clause-differs
returns-in_err-missing-clause-differs g c d is_error =
    let p = err_from_is_err_and c.from_residual-in_err-missing.result c.from_residual-in_err-missing.ensures.1 in
    absurd (no-memory c.from_residual-in_err-missing.result p.0 d p.1 p.2 is_error)

pub returns-in_err-missing-clause-steps : goal.returns-in_err-missing-clause-steps
returns-in_err-missing-clause-steps g c = IsRebuilt-steps c.args.entries.now c.loop-entry.self c.loop-entry.matched c.args.steps.now c.loop-entry.steps c.loop-entry.entry-index c.loop-entry.auto.entry-index-end c.loop-entry-test.false c.loop-entry.invariant.rebuilt

pub returns-then-matched-entries-clause-leads : goal.returns-then-matched-entries-clause-leads
returns-then-matched-entries-clause-leads g c = tt

pub returns-then-matched-entries-clause-is_run : goal.returns-then-matched-entries-clause-is_run
returns-then-matched-entries-clause-is_run g c = tt

pub returns-then-matched-entries-clause-differs : goal.returns-then-matched-entries-clause-differs
returns-then-matched-entries-clause-differs g c d is_error =
    IsRebuilt-missing c.args.entries.now c.loop-entry.self c.loop-entry.matched c.args.steps.now c.loop-entry.steps c.loop-entry.entry-index c.loop-entry.auto.entry-index-end c.loop-entry-test.false c.loop-entry.invariant.rebuilt
    c.in_ok-missing.missing d (Err (rebuild_error.Differs c.in_ok-missing.missing)) refl is_error c.in_ok-missing.ensures

pub returns-then-matched-entries-clause-steps : goal.returns-then-matched-entries-clause-steps
returns-then-matched-entries-clause-steps g c = IsRebuilt-steps c.args.entries.now c.loop-entry.self c.loop-entry.matched c.args.steps.now c.loop-entry.steps c.loop-entry.entry-index c.loop-entry.auto.entry-index-end c.loop-entry-test.false c.loop-entry.invariant.rebuilt

pub returns-clause-leads : goal.returns-clause-leads
returns-clause-leads g c = IsRebuilt-leads c.args.entries.now c.loop-entry.self c.loop-entry.matched c.args.steps.now c.loop-entry.steps c.loop-entry.entry-index c.loop-entry.auto.entry-index-end c.loop-entry-test.false c.loop-entry.invariant.rebuilt

pub returns-clause-is_run : goal.returns-clause-is_run
returns-clause-is_run g c = IsRebuilt-whole c.args.entries.now c.loop-entry.self c.loop-entry.matched c.args.steps.now c.loop-entry.steps c.loop-entry.entry-index c.loop-entry.auto.entry-index-end c.loop-entry-test.false c.loop-entry.invariant.rebuilt c.if-matched-entries.false

pub returns-clause-differs : goal.returns-clause-differs
returns-clause-differs g c d is_error = absurd (no-error tt (rebuild_error.Differs d) is_error)

pub returns-clause-steps : goal.returns-clause-steps
returns-clause-steps g c = IsRebuilt-steps c.args.entries.now c.loop-entry.self c.loop-entry.matched c.args.steps.now c.loop-entry.steps c.loop-entry.entry-index c.loop-entry.auto.entry-index-end c.loop-entry-test.false c.loop-entry.invariant.rebuilt

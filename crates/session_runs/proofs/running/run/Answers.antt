use Rattle.std.proofs.Common.{◌≡◌, ◌-◌, Some, IfSome, arith, sym, subst}
use Rattle.std.proofs.lemmas.Result.{IfErr-weaker, IfOk-from_err, on_ok_weaker}
use Rattle.log_model.specs.Records.{IsRun}
use Rattle.session_runs.specs.Points.{around}
use Rattle.session_runs.specs.Ready.{machine_of}
use Rattle.session_runs.specs.Runs.{begun, ends, run_from}
use Rattle.session_runs.specs.Runs as runs
use Rattle.session_runs.specs.Turns.{finished}
use Rattle.session_runs.specs.Touches.{answering}
use Rattle.session_runs.proofs.LoopLemmas.{if-some, on_ok, told-some}
use Rattle.session_runs.proofs.StopLemmas.{Advances-end, Stops-end}
use Rattle.session_runs.proofs.TakenLemmas.{Carries-text, err-same}
use Rattle.session_runs.proofs.running.run.Goals as goal

pub returns-in_err-leg-clause-stops : goal.returns-in_err-leg-clause-stops
returns-in_err-leg-clause-stops g c =
    let l = c.loop-end in
    let n = c.run_leg.new in
    let why = c.in_err-leg.field-0.0 in
    let choices = g.C.Chooser.choices in
    err-same c.from_residual.result why _ c.from_residual.ensures.1
    ((c.points_follow.ensures.stops (runs.run (machine_of c.args.store.now.entries) c.args.count) (run_from c.args.count (begun (machine_of l.store.entries) l.left))
    (around (choices c.args.outside.now.chooser.now) c.args.outside.now.answers.now c.args.outside.now.steps.now) (around (choices l.outside.chooser.now) l.outside.answers.now l.outside.steps.now) (around (choices n.outside.chooser.now) n.outside.answers.now n.outside.steps.now) 0 0 c.args.outside.now.disk.now l.outside.disk.now n.outside.disk.now c.args.store.now l.store
    (g.K.Sink.holds c.args.outside.now.sink.now) (g.K.Sink.holds l.outside.sink.now) (g.K.Sink.holds n.outside.sink.now) why l.invariant.so_far (c.in_err-leg.ensures.stops c.args.count)).stops)

pub loop-end-preserved : goal.loop-end-preserved
loop-end-preserved g c =
    let l = c.loop-end in
    let n = c.run_leg.new in
    let e = c.in_ok-leg.ensures in
    let choices = g.C.Chooser.choices in
    record {
      ready = e.ready;
      so_far =
          (c.points_follow.ensures.advances (runs.run (machine_of c.args.store.now.entries) c.args.count) (run_from c.args.count (begun (machine_of l.store.entries) l.left)) (run_from c.args.count (begun (machine_of n.store.entries) (l.left - c.in_ok-leg.leg.ran)))
          (around (choices c.args.outside.now.chooser.now) c.args.outside.now.answers.now c.args.outside.now.steps.now) (around (choices l.outside.chooser.now) l.outside.answers.now l.outside.steps.now) (around (choices n.outside.chooser.now) n.outside.answers.now n.outside.steps.now) 0 0 c.args.outside.now.disk.now l.outside.disk.now n.outside.disk.now c.args.store.now l.store n.store
          (g.K.Sink.holds c.args.outside.now.sink.now) (g.K.Sink.holds l.outside.sink.now) (g.K.Sink.holds n.outside.sink.now) l.invariant.so_far (e.advances c.args.count)).advances;
      ended = subst (λ o. IfSome o (λ e. ends (begun (machine_of n.store.entries) (l.left - c.in_ok-leg.leg.ran)) ≡ Some e)) (sym c.run_end-end.ensures) (told-some _ _ e.end);
      within = omega (arith, l.invariant.within);
      goes_on = c.goings_follow.ensures.later c.args.outside.now l.outside n.outside l.invariant.goes_on c.run_leg.ensures.goes_on;
    }

pub returns-clause-advances : goal.returns-clause-advances
returns-clause-advances g c =
    let l = c.loop-end in
    let end = c.in-Some.end in
    let choices = g.C.Chooser.choices in
    let holds = g.K.Sink.holds in
    let ended : ends (begun (machine_of l.store.entries) l.left) ≡ Some end = if-some l.end end (λ e. ends (begun (machine_of l.store.entries) l.left) ≡ Some e) c.in-Some.is l.invariant.ended in
    on_ok_weaker c.print_ran.result
    (λ put.
    (c.points_follow.ensures.advances (runs.run (machine_of c.args.store.now.entries) c.args.count) (run_from c.args.count (begun (machine_of l.store.entries) l.left)) finished
    (around (choices c.args.outside.now.chooser.now) c.args.outside.now.answers.now c.args.outside.now.steps.now) (around (choices l.outside.chooser.now) l.outside.answers.now l.outside.steps.now) (around (choices l.outside.chooser.now) l.outside.answers.now l.outside.steps.now) 0 0 c.args.outside.now.disk.now l.outside.disk.now l.outside.disk.now c.args.store.now l.store l.store
    (holds c.args.outside.now.sink.now) (holds l.outside.sink.now) (holds c.print_ran.new.sink) l.invariant.so_far
    (Advances-end (answering g.A.Answers.answers g.A.Plugs.unplugs g.A.Plugs.filled) c.args.count (machine_of l.store.entries) l.left end (around (choices l.outside.chooser.now) l.outside.answers.now l.outside.steps.now) _ ended
    (Carries-text IsRun g.D.Disk c.effects_follow.ensures.follow l.outside.disk.now l.store (holds l.outside.sink.now) (holds c.print_ran.new.sink) _ l.invariant.so_far.carries.stays_open put))).advances)
    c.print_ran.ensures.ok

pub returns-clause-stops : goal.returns-clause-stops
returns-clause-stops g c =
    let l = c.loop-end in
    let end = c.in-Some.end in
    let choices = g.C.Chooser.choices in
    let holds = g.K.Sink.holds in
    let ended : ends (begun (machine_of l.store.entries) l.left) ≡ Some end = if-some l.end end (λ e. ends (begun (machine_of l.store.entries) l.left) ≡ Some e) c.in-Some.is l.invariant.ended in
    IfErr-weaker c.print_ran.result _ _
    (λ why put.
    (c.points_follow.ensures.stops (runs.run (machine_of c.args.store.now.entries) c.args.count) (run_from c.args.count (begun (machine_of l.store.entries) l.left))
    (around (choices c.args.outside.now.chooser.now) c.args.outside.now.answers.now c.args.outside.now.steps.now) (around (choices l.outside.chooser.now) l.outside.answers.now l.outside.steps.now) (around (choices l.outside.chooser.now) l.outside.answers.now l.outside.steps.now) 0 0 c.args.outside.now.disk.now l.outside.disk.now l.outside.disk.now c.args.store.now l.store
    (holds c.args.outside.now.sink.now) (holds l.outside.sink.now) (holds c.print_ran.new.sink) why l.invariant.so_far
    (Stops-end IsRun g.D.Disk (answering g.A.Answers.answers g.A.Plugs.unplugs g.A.Plugs.filled) c.halts_follow.ensures c.args.count (machine_of l.store.entries) l.left end l.outside.disk.now l.store.entries (holds l.outside.sink.now) (holds c.print_ran.new.sink) why (around (choices l.outside.chooser.now) l.outside.answers.now l.outside.steps.now) ended put)).stops)
    c.print_ran.ensures.stops

-- putting the last line goes on
pub returns-clause-cause : goal.returns-clause-cause
returns-clause-cause g c =
    let l = c.loop-end in
    let gone = l.invariant.goes_on in
    let causes = c.causes_follow.ensures in
    let faults = g.D.Disk.faults in
    IfErr-weaker c.print_ran.result _ _
    (λ why cause. causes.cause why (faults c.args.outside.now.disk.now) (faults l.outside.disk.now) (faults l.outside.disk.now) _ _ _ gone.later.never_falls (causes.still (faults l.outside.disk.now)) gone.faults c.print_ran.ensures.faults (cause (faults l.outside.disk.now)))
    c.print_ran.ensures.cause

pub returns-clause-goes_on : goal.returns-clause-goes_on
returns-clause-goes_on g c =
    let gone = c.loop-end.invariant.goes_on in
    record { later = gone.later; faults = c.causes_follow.ensures.falls _ _ _ gone.faults c.print_ran.ensures.faults; same = record { chooser = gone.same.chooser; answers = gone.same.answers; disk = gone.same.disk; sink = gone.same.sink; steps = gone.same.steps; text = gone.same.text } }

pub returns-in_err-leg-clause-ready : goal.returns-in_err-leg-clause-ready
returns-in_err-leg-clause-ready g c = IfOk-from_err c.from_residual.result _ c.from_residual.ensures.0

pub returns-in_err-leg-clause-advances : goal.returns-in_err-leg-clause-advances
returns-in_err-leg-clause-advances g c = IfOk-from_err c.from_residual.result _ c.from_residual.ensures.0

pub returns-in_err-leg-clause-goes_on : goal.returns-in_err-leg-clause-goes_on
returns-in_err-leg-clause-goes_on g c = c.goings_follow.ensures.later c.args.outside.now c.loop-end.outside c.run_leg.new.outside c.loop-end.invariant.goes_on c.run_leg.ensures.goes_on

pub returns-clause-ready : goal.returns-clause-ready
returns-clause-ready g c = on_ok c.print_ran.result c.loop-end.invariant.ready

pub run_leg-requires-clause-open : goal.run_leg-requires-clause-open
run_leg-requires-clause-open g c = c.loop-end.invariant.so_far.carries.stays_open

pub run_leg-requires-clause-ready : goal.run_leg-requires-clause-ready
run_leg-requires-clause-ready g c = c.loop-end.invariant.ready

pub run_leg-requires-clause-few : goal.run_leg-requires-clause-few
run_leg-requires-clause-few g c = omega (arith, c.loop-end.invariant.within, c.requires.few)

pub overflow_sub-left : goal.overflow_sub-left
overflow_sub-left g c = c.in_ok-leg.ensures.within

pub returns-in_err-leg-clause-cause : goal.returns-in_err-leg-clause-cause
returns-in_err-leg-clause-cause g c =
    let why = c.in_err-leg.field-0.0 in
    err-same c.from_residual.result why _ c.from_residual.ensures.1
    (c.goings_follow.ensures.cause why c.args.outside.now c.loop-end.outside c.run_leg.new.outside c.loop-end.invariant.goes_on c.run_leg.ensures.goes_on c.in_err-leg.ensures.cause)

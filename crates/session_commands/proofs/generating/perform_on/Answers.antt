use Rattle.std.proofs.Common.{None, refl}
use Rattle.std.proofs.lemmas.Result.{on_ok_weaker}
use Rattle.session_runs.specs.Points.{around}
use Rattle.session_runs.specs.Ready.{machine_of}
use Rattle.session_runs.specs.Turns.{prints}
use Rattle.session_commands.specs.Generator.{gen_inputs, gen_run, generator_turn}
use Rattle.session_runs.specs.Touches.{answering}
use Rattle.session_commands.proofs.AnswerLemmas.{err-both, OnOk-never, falls-same}
use Rattle.session_commands.proofs.ChangeLemmas.{err-same}
use Rattle.session_commands.proofs.GeneratedLemmas.{Advances-events, Stops-events, plain-events}
use Rattle.session_commands.proofs.QuietLemmas.{AreCommitted}
use Rattle.session_commands.proofs.generating.perform_on.Goals as goal

pub returns-in_err-commit_events-clause-stops : goal.returns-in_err-commit_events-clause-stops
returns-in_err-commit_events-clause-stops g c told processes =
    let held = g.K.Sink.holds c.args.outside.now.sink.now in
    let why = c.in_err-commit_events.field-0.0 in
    let inputs = gen_inputs c.args.image.now c.args.typed.now in
    err-same c.from_residual.result why _ c.from_residual.ensures.1
    (Stops-events g.D.Disk (answering g.A.Answers.answers g.A.Plugs.unplugs g.A.Plugs.filled) c.named_append.ensures.named c.named_append.ensures.behind told processes (g.C.Chooser.choices c.args.outside.now.chooser.now) c.args.outside.now.answers.now c.args.outside.now.steps.now c.halts_follow.ensures c.args.outside.now.disk.now c.commit_events.new.disk c.args.store.now.entries held why inputs (plain-events (machine_of c.args.store.now.entries) c.args.image.now c.args.typed.now)
    (c.in_err-commit_events.ensures.stops held))

pub returns-clause-advances : goal.returns-clause-advances
returns-clause-advances g c told processes =
    let held = g.K.Sink.holds c.args.outside.now.sink.now in
    let n = c.run_quietly.new in
    let s = c.commit_events.new.store in
    let inputs = gen_inputs c.args.image.now c.args.typed.now in
    let u = around (g.C.Chooser.choices c.args.outside.now.chooser.now) c.args.outside.now.answers.now c.args.outside.now.steps.now in
    let done : AreCommitted g.D.Disk c.args.outside.now.disk.now c.commit_events.new.disk c.args.store.now s inputs = record { carries = c.in_ok-commit_events.ensures.carries; leads = c.in_ok-commit_events.ensures.leads } in
    on_ok_weaker c.run_quietly.result
    (λ q. (c.points_follow.ensures.advances (generator_turn told c.args.store.now.entries c.args.image.now c.args.typed.now processes) (gen_run told s.entries (machine_of s.entries) processes) (prints (told.generated n.store.entries processes)) u u (around (g.C.Chooser.choices n.outside.chooser.now) n.outside.answers.now n.outside.steps.now) 0 0 c.args.outside.now.disk.now c.commit_events.new.disk n.outside.disk.now c.args.store.now s n.store held held (g.K.Sink.holds n.outside.sink.now)
    (Advances-events g.D.Disk (answering g.A.Answers.answers g.A.Plugs.unplugs g.A.Plugs.filled) c.named_append.ensures.named c.named_append.ensures.behind told processes (g.C.Chooser.choices c.args.outside.now.chooser.now) c.args.outside.now.answers.now c.args.outside.now.steps.now c.args.outside.now.disk.now c.commit_events.new.disk c.args.store.now s held inputs (plain-events (machine_of c.args.store.now.entries) c.args.image.now c.args.typed.now) done) q).advances)
    (c.run_quietly.ensures.advances told processes)

pub returns-clause-stops : goal.returns-clause-stops
returns-clause-stops g c told processes =
    let held = g.K.Sink.holds c.args.outside.now.sink.now in
    let n = c.run_quietly.new in
    let s = c.commit_events.new.store in
    let inputs = gen_inputs c.args.image.now c.args.typed.now in
    let u = around (g.C.Chooser.choices c.args.outside.now.chooser.now) c.args.outside.now.answers.now c.args.outside.now.steps.now in
    let done : AreCommitted g.D.Disk c.args.outside.now.disk.now c.commit_events.new.disk c.args.store.now s inputs = record { carries = c.in_ok-commit_events.ensures.carries; leads = c.in_ok-commit_events.ensures.leads } in
    err-both c.run_quietly.result _ _ _
    (λ why q cause. (c.points_follow.ensures.stops (generator_turn told c.args.store.now.entries c.args.image.now c.args.typed.now processes) (gen_run told s.entries (machine_of s.entries) processes) u u (around (g.C.Chooser.choices n.outside.chooser.now) n.outside.answers.now n.outside.steps.now) 0 0 c.args.outside.now.disk.now c.commit_events.new.disk n.outside.disk.now c.args.store.now s held held (g.K.Sink.holds n.outside.sink.now) why
    (Advances-events g.D.Disk (answering g.A.Answers.answers g.A.Plugs.unplugs g.A.Plugs.filled) c.named_append.ensures.named c.named_append.ensures.behind told processes (g.C.Chooser.choices c.args.outside.now.chooser.now) c.args.outside.now.answers.now c.args.outside.now.steps.now c.args.outside.now.disk.now c.commit_events.new.disk c.args.store.now s held inputs (plain-events (machine_of c.args.store.now.entries) c.args.image.now c.args.typed.now) done) q).stops)
    (c.run_quietly.ensures.stops told processes) c.run_quietly.ensures.cause

pub returns-clause-cause : goal.returns-clause-cause
returns-clause-cause g c =
    err-both c.run_quietly.result _ _ _
    (λ why cause again faults. c.causes_follow.ensures.cause why _ _ _ _ _ _ c.commit_events.ensures.later.never_falls c.run_quietly.ensures.goes_on.later.never_falls (c.causes_follow.ensures.still faults) (c.causes_follow.ensures.still faults) (cause faults))
    c.run_quietly.ensures.cause c.run_quietly.ensures.cause

pub run_quietly-requires-clause-open : goal.run_quietly-requires-clause-open
run_quietly-requires-clause-open g c = (c.in_ok-commit_events.ensures.carries None).stays_open

pub returns-clause-goes_on : goal.returns-clause-goes_on
returns-clause-goes_on g c =
    let gone = c.run_quietly.ensures.goes_on in
    record { later = c.causes_follow.ensures.later _ _ _ c.commit_events.ensures.later gone.later; faults = gone.faults; same = record { chooser = gone.same.chooser; answers = gone.same.answers; disk = gone.same.disk; sink = gone.same.sink; steps = gone.same.steps; text = gone.same.text } }

pub returns-in_err-commit_events-clause-ready : goal.returns-in_err-commit_events-clause-ready
returns-in_err-commit_events-clause-ready g c = OnOk-never _ c.from_residual.result c.in_err-commit_events.field-0.0 c.from_residual.ensures.1

pub returns-in_err-commit_events-clause-advances : goal.returns-in_err-commit_events-clause-advances
returns-in_err-commit_events-clause-advances g c = λ told processes. OnOk-never _ c.from_residual.result c.in_err-commit_events.field-0.0 c.from_residual.ensures.1

pub returns-in_err-commit_events-clause-cause : goal.returns-in_err-commit_events-clause-cause
returns-in_err-commit_events-clause-cause g c = err-same c.from_residual.result c.in_err-commit_events.field-0.0 _ c.from_residual.ensures.1 c.in_err-commit_events.ensures.cause

pub returns-in_err-commit_events-clause-goes_on : goal.returns-in_err-commit_events-clause-goes_on
returns-in_err-commit_events-clause-goes_on g c = record { later = c.commit_events.ensures.later; faults = falls-same (g.K.Sink.faults c.args.outside.now.sink.now); same = record { chooser = refl; answers = refl; disk = refl; sink = refl; steps = refl; text = refl } }

pub returns-clause-ready : goal.returns-clause-ready
returns-clause-ready g c = c.run_quietly.ensures.ready

pub run_quietly-requires-clause-ready : goal.run_quietly-requires-clause-ready
run_quietly-requires-clause-ready g c = c.in_ok-commit_events.ensures.ready

pub commit_events-requires-clause-open : goal.commit_events-requires-clause-open
commit_events-requires-clause-open g c = c.requires.«open»

pub commit_events-requires-clause-ready : goal.commit_events-requires-clause-ready
commit_events-requires-clause-ready g c = c.requires.ready

pub commit_events-requires-clause-image : goal.commit_events-requires-clause-image
commit_events-requires-clause-image g c = c.requires.image

pub commit_events-requires-clause-typed : goal.commit_events-requires-clause-typed
commit_events-requires-clause-typed g c = c.requires.typed

pub commit_events-requires-clause-accepted : goal.commit_events-requires-clause-accepted
commit_events-requires-clause-accepted g c = c.requires.accepted

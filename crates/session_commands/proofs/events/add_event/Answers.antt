use Rattle.std.proofs.Common.{IfErr, List, [], OnOk, refl, subst}
use Rattle.arn_lines.specs.Texts.{event_text}
use Rattle.log_model.specs.Records.{IsRun}
use Rattle.session_effects.specs.Carrying.{StopsBetween}
use Rattle.session_effects.specs.Effects.{Effect}
use Rattle.session_effects.specs.Standing.{Carries}
use Rattle.session_effects.specs.declared.halt.Halt.TheVariants as halt
use Rattle.session_runs.specs.Ready.{machine_of}
use Rattle.session_runs.specs.Turns.{does}
use Rattle.session_commands.specs.Answering.{HaltsIn}
use Rattle.session_commands.specs.Events.{event_effects, input_of}
use Rattle.session_runs.specs.Touches.{answering}
use Rattle.session_commands.proofs.ChangeLemmas.{err-same}
use Rattle.session_commands.proofs.EventLemmas.{event-advances, event-effects, event-stop, event-stops}
use Rattle.session_commands.proofs.LineLemmas.{plain-given}
use Rattle.session_commands.proofs.PartLemmas.{Halts-before, ready-carried}
use Rattle.session_commands.proofs.AnswerLemmas.{OnOk-never, falls-same, goes-same}
use Rattle.session_commands.proofs.events.add_event.Goals as goal

pub returns-in_err-event-clause-stops : goal.returns-in_err-event-clause-stops
returns-in_err-event-clause-stops g c =
    let m = machine_of c.args.store.now.entries in
    let i = input_of c.args.incoming.now in
    let o = c.args.outside.now in
    err-same c.from_residual.result halt.NoMemory _ c.from_residual.ensures.1
    (event-stop g.D.Disk (answering g.A.Answers.answers g.A.Plugs.unplugs g.A.Plugs.filled) (g.C.Chooser.choices o.chooser.now) o.answers.now o.steps.now m i (plain-given m c.args.incoming.now) (does (event_effects m i) []) refl c.halts_follow.ensures halt.NoMemory o.disk.now o.disk.now c.args.store.now.entries (g.K.Sink.holds o.sink.now) (g.K.Sink.holds o.sink.now)
    (Halts-before g.D.Disk c.effects_follow.ensures.follow c.halts_follow.ensures o.disk.now c.args.store.now.entries (g.K.Sink.holds o.sink.now) halt.NoMemory (event_effects m i) refl))

pub finish-requires-clause-run : goal.finish-requires-clause-run
finish-requires-clause-run g c is_run = c.in_ok-event.ensures.ready.is_run

pub returns-clause-ready : goal.returns-clause-ready
returns-clause-ready g c =
    let o = c.args.outside.now in
    let event = c.in_ok-event.event in
    ready-carried g.D.Disk c.effects_follow.ensures.follow c.halts_follow.ensures c.finish.result o.disk.now c.finish.new.disk c.args.store.now c.finish.new.store (g.K.Sink.holds o.sink.now) (g.K.Sink.holds c.finish.new.sink)
    event.entries.items (event_text event.number) c.make_event.new.machine c.in_ok-event.ensures.ready c.finish.ensures.carries

pub returns-clause-advances : goal.returns-clause-advances
returns-clause-advances g c =
    let m = machine_of c.args.store.now.entries in
    let i = input_of c.args.incoming.now in
    let o = c.args.outside.now in
    let is = event-effects m i c.in_ok-event.event c.in_ok-event.ensures.made in
    event-advances g.D.Disk (answering g.A.Answers.answers g.A.Plugs.unplugs g.A.Plugs.filled) (g.C.Chooser.choices o.chooser.now) o.answers.now o.steps.now m i (plain-given m c.args.incoming.now) (does (event_effects m i) []) refl
    c.finish.result o.disk.now c.finish.new.disk c.args.store.now c.finish.new.store (g.K.Sink.holds o.sink.now) (g.K.Sink.holds c.finish.new.sink)
    (subst (λ (e : List Effect). OnOk c.finish.result (Carries IsRun g.D.Disk o.disk.now c.finish.new.disk c.args.store.now c.finish.new.store (g.K.Sink.holds o.sink.now) (g.K.Sink.holds c.finish.new.sink) e)) is c.finish.ensures.carries)

pub returns-clause-stops : goal.returns-clause-stops
returns-clause-stops g c =
    let m = machine_of c.args.store.now.entries in
    let i = input_of c.args.incoming.now in
    let o = c.args.outside.now in
    let is = event-effects m i c.in_ok-event.event c.in_ok-event.ensures.made in
    event-stops g.D.Disk (answering g.A.Answers.answers g.A.Plugs.unplugs g.A.Plugs.filled) (g.C.Chooser.choices o.chooser.now) o.answers.now o.steps.now m i (plain-given m c.args.incoming.now) (does (event_effects m i) []) refl
    c.halts_follow.ensures c.finish.result o.disk.now c.finish.new.disk c.args.store.now.entries (g.K.Sink.holds o.sink.now) (g.K.Sink.holds c.finish.new.sink)
    (subst (λ (e : List Effect). IfErr c.finish.result (λ halt. HaltsIn (StopsBetween IsRun g.D.Disk o.disk.now c.finish.new.disk c.args.store.now.entries (g.K.Sink.holds o.sink.now) (g.K.Sink.holds c.finish.new.sink) halt) e)) is c.finish.ensures.stops)

pub returns-in_err-event-clause-ready : goal.returns-in_err-event-clause-ready
returns-in_err-event-clause-ready g c = OnOk-never _ c.from_residual.result halt.NoMemory c.from_residual.ensures.1

pub returns-in_err-event-clause-advances : goal.returns-in_err-event-clause-advances
returns-in_err-event-clause-advances g c = OnOk-never _ c.from_residual.result halt.NoMemory c.from_residual.ensures.1

pub returns-in_err-event-clause-cause : goal.returns-in_err-event-clause-cause
returns-in_err-event-clause-cause g c = err-same c.from_residual.result halt.NoMemory _ c.from_residual.ensures.1 tt

pub returns-in_err-event-clause-goes_on : goal.returns-in_err-event-clause-goes_on
returns-in_err-event-clause-goes_on g c = record { later = goes-same g.D.Disk.image g.D.Disk.faults c.args.outside.now.disk.now; faults = falls-same (g.K.Sink.faults c.args.outside.now.sink.now); same = record { chooser = refl; answers = refl; disk = refl; sink = refl; steps = refl; text = refl } }

pub returns-clause-cause : goal.returns-clause-cause
returns-clause-cause g c = c.finish.ensures.cause

pub returns-clause-goes_on : goal.returns-clause-goes_on
returns-clause-goes_on g c = record { later = c.finish.ensures.later; faults = c.finish.ensures.faults; same = record { chooser = refl; answers = refl; disk = refl; sink = refl; steps = refl; text = refl } }

pub finish-requires-clause-open : goal.finish-requires-clause-open
finish-requires-clause-open g c = c.requires.«open»

pub finish-requires-clause-spelled : goal.finish-requires-clause-spelled
finish-requires-clause-spelled g c = c.in_ok-event.ensures.spelled

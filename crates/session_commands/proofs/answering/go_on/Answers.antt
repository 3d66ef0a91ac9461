use Rattle.std.proofs.Common.{◌≡◌, ◌∙◌, IfErr, None, OnOk, ap, subst, sym, true}
use Rattle.std.proofs.lemmas.Bool.{false≢true}
use Rattle.arn_commands.specs.Sizes.{LineFits}
use Rattle.arn_lines.specs.declared.line.Line.{Line}
use Rattle.session_runs.specs.Standing.{HaltsBehind, Proceeds, standing}
use Rattle.session_runs.specs.Touches.{answering}
use Rattle.session_runs.specs.Turns.{finished}
use Rattle.session_commands.specs.Given.{given}
use Rattle.session_commands.specs.Rows.{LineRow, row_of}
use Rattle.session_commands.proofs.answering.go_on.Goals as goal

pub run-requires-clause-open : goal.run-requires-clause-open
run-requires-clause-open g c = c.requires.«open»

pub run-requires-clause-ready : goal.run-requires-clause-ready
run-requires-clause-ready g c = c.requires.ready

pub run-requires-clause-few : goal.run-requires-clause-few
run-requires-clause-few g c = subst LineFits c.in-Run.is c.requires.fits

pub unplug_device-requires-clause-open : goal.unplug_device-requires-clause-open
unplug_device-requires-clause-open g c = c.requires.«open»

pub unplug_device-requires-clause-ready : goal.unplug_device-requires-clause-ready
unplug_device-requires-clause-ready g c = c.requires.ready

pub unplug_device-requires-clause-accepted : goal.unplug_device-requires-clause-accepted
unplug_device-requires-clause-accepted g c = subst (λ (l : Line). (row_of (given c.requires.accepted.0 (g.A.Plugs.filled c.args.outside.now.answers.now)) c.args.store.now.entries l).refusal ≡ None) c.in-Unplug.is c.requires.accepted.1

pub incoming_of-requires : goal.incoming_of-requires
incoming_of-requires g c =
    let told = c.requires.accepted.0 in
    record { asks_not = λ question is. false≢true (subst (λ (l : Line). (row_of (given told (g.A.Plugs.filled c.args.outside.now.answers.now)) c.args.store.now.entries l).needs_machine ≡ true) is (c.requires.needs (given told (g.A.Plugs.filled c.args.outside.now.answers.now)))); runs_not = c.in_default.not-Run; unplugs_not = c.in_default.not-Unplug }

pub add_event-requires : goal.add_event-requires
add_event-requires g c =
    let told = c.requires.accepted.0 in
    record { «open» = c.requires.«open»; ready = c.requires.ready; fits = c.incoming_of.ensures.fits c.requires.fits; accepted = ap (λ (r : LineRow). r.refusal) (sym (c.incoming_of.ensures.row (given told (g.A.Plugs.filled c.args.outside.now.answers.now)) c.args.store.now.entries)) ∙ c.requires.accepted.1 }

pub returns-in-Run-clause-ready : goal.returns-in-Run-clause-ready
returns-in-Run-clause-ready g c = c.run.ensures.ready

pub returns-in-Run-clause-advances : goal.returns-in-Run-clause-advances
returns-in-Run-clause-advances g c told = subst (λ (l : Line). OnOk c.run.result (Proceeds g.D.Disk (answering g.A.Answers.answers g.A.Plugs.unplugs g.A.Plugs.filled) (row_of (given told (g.A.Plugs.filled c.args.outside.now.answers.now)) c.args.store.now.entries l).turn finished 0 (standing g.C.Chooser.choices g.K.Sink.holds c.args.store.now c.args.outside.now) (standing g.C.Chooser.choices g.K.Sink.holds c.run.new.store c.run.new.outside))) (sym c.in-Run.is) c.run.ensures.advances

pub returns-in-Run-clause-stops : goal.returns-in-Run-clause-stops
returns-in-Run-clause-stops g c told = subst (λ (l : Line). IfErr c.run.result (λ halt. HaltsBehind g.D.Disk (answering g.A.Answers.answers g.A.Plugs.unplugs g.A.Plugs.filled) halt (row_of (given told (g.A.Plugs.filled c.args.outside.now.answers.now)) c.args.store.now.entries l).turn 0 (standing g.C.Chooser.choices g.K.Sink.holds c.args.store.now c.args.outside.now) (standing g.C.Chooser.choices g.K.Sink.holds c.run.new.store c.run.new.outside))) (sym c.in-Run.is) c.run.ensures.stops

pub returns-in-Run-clause-cause : goal.returns-in-Run-clause-cause
returns-in-Run-clause-cause g c = c.run.ensures.cause

pub returns-in-Run-clause-goes_on : goal.returns-in-Run-clause-goes_on
returns-in-Run-clause-goes_on g c = c.run.ensures.goes_on

pub returns-in-Unplug-clause-ready : goal.returns-in-Unplug-clause-ready
returns-in-Unplug-clause-ready g c = c.unplug_device.ensures.ready

pub returns-in-Unplug-clause-advances : goal.returns-in-Unplug-clause-advances
returns-in-Unplug-clause-advances g c told = subst (λ (l : Line). OnOk c.unplug_device.result (Proceeds g.D.Disk (answering g.A.Answers.answers g.A.Plugs.unplugs g.A.Plugs.filled) (row_of (given told (g.A.Plugs.filled c.args.outside.now.answers.now)) c.args.store.now.entries l).turn finished 0 (standing g.C.Chooser.choices g.K.Sink.holds c.args.store.now c.args.outside.now) (standing g.C.Chooser.choices g.K.Sink.holds c.unplug_device.new.store c.unplug_device.new.outside))) (sym c.in-Unplug.is) c.unplug_device.ensures.advances

pub returns-in-Unplug-clause-stops : goal.returns-in-Unplug-clause-stops
returns-in-Unplug-clause-stops g c told = subst (λ (l : Line). IfErr c.unplug_device.result (λ halt. HaltsBehind g.D.Disk (answering g.A.Answers.answers g.A.Plugs.unplugs g.A.Plugs.filled) halt (row_of (given told (g.A.Plugs.filled c.args.outside.now.answers.now)) c.args.store.now.entries l).turn 0 (standing g.C.Chooser.choices g.K.Sink.holds c.args.store.now c.args.outside.now) (standing g.C.Chooser.choices g.K.Sink.holds c.unplug_device.new.store c.unplug_device.new.outside))) (sym c.in-Unplug.is) c.unplug_device.ensures.stops

pub returns-in-Unplug-clause-cause : goal.returns-in-Unplug-clause-cause
returns-in-Unplug-clause-cause g c = c.unplug_device.ensures.cause

pub returns-in-Unplug-clause-goes_on : goal.returns-in-Unplug-clause-goes_on
returns-in-Unplug-clause-goes_on g c = c.unplug_device.ensures.goes_on

pub returns-in_default : goal.returns-in_default
returns-in_default g c = record {
  ready = c.add_event.ensures.ready;
  advances = λ told. subst (λ (r : LineRow). OnOk c.add_event.result (Proceeds g.D.Disk (answering g.A.Answers.answers g.A.Plugs.unplugs g.A.Plugs.filled) r.turn finished 0 (standing g.C.Chooser.choices g.K.Sink.holds c.args.store.now c.args.outside.now) (standing g.C.Chooser.choices g.K.Sink.holds c.add_event.new.store c.add_event.new.outside))) (sym (c.incoming_of.ensures.row (given told (g.A.Plugs.filled c.args.outside.now.answers.now)) c.args.store.now.entries)) c.add_event.ensures.advances;
  stops = λ told. subst (λ (r : LineRow). IfErr c.add_event.result (λ halt. HaltsBehind g.D.Disk (answering g.A.Answers.answers g.A.Plugs.unplugs g.A.Plugs.filled) halt r.turn 0 (standing g.C.Chooser.choices g.K.Sink.holds c.args.store.now c.args.outside.now) (standing g.C.Chooser.choices g.K.Sink.holds c.add_event.new.store c.add_event.new.outside))) (sym (c.incoming_of.ensures.row (given told (g.A.Plugs.filled c.args.outside.now.answers.now)) c.args.store.now.entries)) c.add_event.ensures.stops;
  cause = c.add_event.ensures.cause;
  goes_on = c.add_event.ensures.goes_on;
}

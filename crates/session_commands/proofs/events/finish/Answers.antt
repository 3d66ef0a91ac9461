use Rattle.arn_lines.specs.Texts.{event_text}
use Rattle.session_commands.proofs.PartLemmas.{Carries-event, Halts-first, Halts-last}
use Rattle.session_commands.proofs.AnswerLemmas.{OnOk-never, falls-same, put-cause}
use Rattle.session_commands.proofs.ChangeLemmas.{err-same}
use Rattle.session_commands.proofs.events.finish.Goals as goal

pub returns-in_err-commit-clause-stops : goal.returns-in_err-commit-clause-stops
returns-in_err-commit-clause-stops g c =
    Halts-first g.D.Disk c.effects_follow.ensures.follow c.halts_follow.ensures c.from_residual.result c.args.disk.now c.commit.new.disk c.args.store.now.entries (g.K.Sink.holds c.args.sink.now) c.in_err-commit.field-0.0
    c.args.event.entries.items (event_text c.args.event.number) c.from_residual.ensures.1 c.in_err-commit.ensures.undone

pub returns-clause-carries : goal.returns-clause-carries
returns-clause-carries g c =
    Carries-event g.D.Disk c.effects_follow.ensures.follow c.halts_follow.ensures c.print_event.result c.args.disk.now c.commit.new.disk c.args.store.now c.commit.new.store (g.K.Sink.holds c.args.sink.now)
    (g.K.Sink.holds c.print_event.new.sink) c.args.event.entries.items (event_text c.args.event.number) (c.in_ok-commit.ensures.carries (g.K.Sink.holds c.args.sink.now)) c.print_event.ensures.ok

pub returns-clause-stops : goal.returns-clause-stops
returns-clause-stops g c =
    Halts-last g.D.Disk c.effects_follow.ensures.follow c.halts_follow.ensures c.print_event.result c.args.disk.now c.commit.new.disk c.args.store.now c.commit.new.store (g.K.Sink.holds c.args.sink.now)
    (g.K.Sink.holds c.print_event.new.sink) c.args.event.entries.items (event_text c.args.event.number) (c.in_ok-commit.ensures.carries (g.K.Sink.holds c.args.sink.now)) c.print_event.ensures.stops

pub returns-in_err-commit-clause-carries : goal.returns-in_err-commit-clause-carries
returns-in_err-commit-clause-carries g c = OnOk-never _ c.from_residual.result c.in_err-commit.field-0.0 c.from_residual.ensures.1

pub returns-in_err-commit-clause-cause : goal.returns-in_err-commit-clause-cause
returns-in_err-commit-clause-cause g c = err-same c.from_residual.result c.in_err-commit.field-0.0 _ c.from_residual.ensures.1 (c.in_err-commit.ensures.cause (g.K.Sink.faults c.args.sink.now))

pub returns-in_err-commit-clause-later : goal.returns-in_err-commit-clause-later
returns-in_err-commit-clause-later g c = c.commit.ensures.later

pub returns-in_err-commit-clause-faults : goal.returns-in_err-commit-clause-faults
returns-in_err-commit-clause-faults g c = falls-same (g.K.Sink.faults c.args.sink.now)

pub returns-clause-cause : goal.returns-clause-cause
returns-clause-cause g c = put-cause c.print_event.result (g.D.Disk.faults c.args.disk.now) (g.D.Disk.faults c.commit.new.disk) (g.K.Sink.faults c.args.sink.now) (g.K.Sink.faults c.print_event.new.sink) c.print_event.ensures.cause

pub returns-clause-later : goal.returns-clause-later
returns-clause-later g c = c.commit.ensures.later

pub returns-clause-faults : goal.returns-clause-faults
returns-clause-faults g c = c.print_event.ensures.faults

pub commit-requires-clause-open : goal.commit-requires-clause-open
commit-requires-clause-open g c = c.requires.«open»

pub commit-requires-clause-spelled : goal.commit-requires-clause-spelled
commit-requires-clause-spelled g c = c.requires.spelled

pub commit-requires-clause-run : goal.commit-requires-clause-run
commit-requires-clause-run g c = c.requires.run

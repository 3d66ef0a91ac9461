-- What was answered, was printed.
use Rattle.std.proofs.Common.{◌∙◌, ap}
use Rattle.arn_base.specs.InMemory.{SourceState, SinkState}
use Rattle.log_model.specs.Records.{IsRun}
use Rattle.guest_devices.specs.Slots.{is_filled}
use Rattle.session_questions.specs.Texts.{told}
use Rattle.session_commands.specs.Given.{given}
use Rattle.session_trials.proofs.PrintLemmas.{Answers-Prints}
use Rattle.session_trials.proofs.sessions.run_over.Goals as goal

pub returns-clause-done : goal.returns-clause-done
returns-clause-done g c = λ is history log.
    Answers-Prints _ (given told (is_filled c.args.devices.items)) IsRun g.D.Disk c.args.disk.now c.arnold-status.new.disk history c.in_pieces-source.result.left c.args.script.now.text.now c.new-sink.result.held c.arnold-status.new.sink.held
    (ap (λ (source : SourceState). source.left) c.in_pieces-source.ensures ∙ c.in_ok-bytes.ensures)
    (ap (λ (sink : SinkState). sink.held) c.new-sink.ensures)
    (c.arnold-status.ensures.answered is history log)

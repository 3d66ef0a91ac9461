-- Whole parts of the text were read and answered. What is left to read falls.
use Rattle.std.proofs.Common.{◌≤◌, ◌+◌, ◌-◌, length, is_some}
use Rattle.arn_base.specs.Faults.{NeverFalls}
use Rattle.arn_commands.specs.declared.reader.TheConstants.{MOST_TAKEN}
use Rattle.session_effects.specs.Outside.{GoesOnOutside}
use Rattle.session_effects.specs.Standing.{IsOpen}
use Rattle.session_commands.specs.Kept.{IsSound}
use Rattle.session_runs.specs.Touches.{answering}
use Rattle.session_commands.specs.Given.{given}
use Rattle.session_runs.specs.Standing.{standing}
use Rattle.session_text.proofs.Progress.{Progress}
use Rattle.session_text.proofs.text.answer_all.Given as goal

abbrev pub invariant-loop-next : goal.invariant-loop-next
invariant-loop-next g l =
    record {
      progress : Progress g.D.Disk (answering g.A.Answers.answers g.A.Plugs.unplugs g.A.Plugs.filled)
          (given g.Q.Questions.told (g.A.Plugs.filled l.initial.outside.answers.now)) (g.S.Source.left l.initial.source) (g.S.Source.left l.source) l.commands (is_some l.kept.machine)
          (standing g.C.Chooser.choices g.K.Sink.holds l.initial.kept.store l.initial.outside)
          (standing g.C.Chooser.choices g.K.Sink.holds l.kept.store l.outside);
      is_open : IsOpen g.D.Disk l.kept.store l.outside.disk.now;
      sound : IsSound g.Q.Questions.knows l.kept.machine l.kept.questions l.kept.store.entries;
      within : l.commands.taken ≤ MOST_TAKEN;
      source : NeverFalls (g.S.Source.faults l.initial.source) (g.S.Source.faults l.source);
      goes_on : GoesOnOutside g.D.Disk g.K.Sink.faults l.initial.outside l.outside;
    }

abbrev pub decreases-loop-next : goal.decreases-loop-next
decreases-loop-next g l = (MOST_TAKEN + length l.commands.ahead) - l.commands.taken

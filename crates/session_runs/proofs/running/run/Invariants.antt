-- Some legs of the run were carried out, and the machine is the one behind them.
use Rattle.std.proofs.Common.{◌≡◌, ◌≤◌, Some, IfSome, length}
use Rattle.log_model.specs.Records.{IsRun}
use Rattle.session_effects.specs.Outside.{GoesOnOutside}
use Rattle.session_effects.specs.Standing.{Carries}
use Rattle.session_runs.specs.Points.{Advances, around}
use Rattle.session_runs.specs.Ready.{IsReady, machine_of}
use Rattle.session_runs.specs.Runs.{begun, ends, run_from}
use Rattle.session_runs.specs.Runs as runs
use Rattle.session_runs.specs.Touches.{answering}
use Rattle.session_runs.proofs.LoopLemmas.{turns}
use Rattle.session_runs.proofs.running.run.Given as goal

abbrev pub invariant-loop-end : goal.invariant-loop-end
invariant-loop-end g l =
    record {
      ready : IsReady l.machine l.store.entries;
      so_far :
          Advances (answering g.A.Answers.answers g.A.Plugs.unplugs g.A.Plugs.filled) (runs.run (machine_of l.fn.store.entries) l.count) (run_from l.count (begun (machine_of l.store.entries) l.left))
          (around (g.C.Chooser.choices l.fn.outside.chooser.now) l.fn.outside.answers.now l.fn.outside.steps.now) (around (g.C.Chooser.choices l.outside.chooser.now) l.outside.answers.now l.outside.steps.now) 0
          (Carries IsRun g.D.Disk l.fn.outside.disk.now l.outside.disk.now l.fn.store l.store (g.K.Sink.holds l.fn.outside.sink.now) (g.K.Sink.holds l.outside.sink.now));
      ended : IfSome l.end (λ e. ends (begun (machine_of l.store.entries) l.left) ≡ Some e);
      within : l.left ≤ l.count;
      goes_on : GoesOnOutside g.D.Disk g.K.Sink.faults l.fn.outside l.outside;
    }

abbrev pub decreases-loop-end : goal.decreases-loop-end
decreases-loop-end g l = turns l.end (length l.store.entries)

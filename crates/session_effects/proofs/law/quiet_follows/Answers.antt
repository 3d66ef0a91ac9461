use Rattle.session_effects.proofs.QuietLemmas.{quiet-carries, quiet-halts}
use Rattle.session_effects.proofs.law.quiet_follows.Goals as goal

pub returns : goal.returns
returns g c = record {
  carries = quiet-carries g.R.Runs.is_run g.D.Disk;
  halts = quiet-halts g.R.Runs.is_run g.D.Disk;
}

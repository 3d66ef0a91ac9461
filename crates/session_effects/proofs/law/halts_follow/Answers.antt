use Rattle.session_effects.proofs.CarryLemmas.{halts-before, halts-behind, stops-of}
use Rattle.session_effects.proofs.StepLemmas.{halts-nothing, halts-text}
use Rattle.session_effects.proofs.law.halts_follow.Goals as goal

pub returns : goal.returns
returns g c = record {
  nothing = halts-nothing g.R.Runs.is_run g.D.Disk g.met.D.Disk.reads_may_stay g.met.D.Disk.only_now;
  text = halts-text g.R.Runs.is_run g.D.Disk g.met.D.Disk.reads_may_stay g.met.D.Disk.only_now;
  behind = halts-behind g.R.Runs.is_run g.D.Disk;
  before = halts-before g.R.Runs.is_run g.D.Disk;
  all = stops-of g.R.Runs.is_run g.D.Disk;
}

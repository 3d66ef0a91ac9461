use Rattle.session_effects.proofs.FaultLemmas.{GoesOn-append, IsCause-after, NeverFalls-append, NeverFalls-same}
use Rattle.session_effects.proofs.law.causes_follow.Goals as goal

pub returns : goal.returns
returns g c = record {
  still = NeverFalls-same;
  falls = NeverFalls-append;
  later = GoesOn-append g.D.Disk.image g.D.Disk.faults;
  cause = IsCause-after;
}

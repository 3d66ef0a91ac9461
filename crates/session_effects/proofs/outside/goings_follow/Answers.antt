use Rattle.session_effects.proofs.OutsideLemmas.{goings}
use Rattle.session_effects.proofs.outside.goings_follow.Goals as goal

pub returns : goal.returns
returns g c = goings g.D.Disk g.K.Sink.faults

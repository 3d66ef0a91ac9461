use Rattle.session_runs.proofs.TouchLemmas.{unplugged-slices}
use Rattle.session_runs.proofs.law.slices_unplug_nothing.Goals as goal

pub returns : goal.returns
returns c = unplugged-slices

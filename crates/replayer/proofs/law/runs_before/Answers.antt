use Rattle.replayer.proofs.Exact.{before-exact, before-within}
use Rattle.replayer.proofs.law.runs_before.Goals as goal

pub returns : goal.returns
returns c = record { exact = before-exact; within = before-within }

use Rattle.replayer.proofs.BySlices.{alone-by-slices}
use Rattle.replayer.proofs.law.alone_by_slices.Goals as goal

pub returns : goal.returns
returns c = alone-by-slices

use Rattle.group_extents.proofs.Equal.{alone-same}
use Rattle.group_extents.proofs.law.equal_extents_make_one.Goals as goal

pub returns : goal.returns
returns c = alone-same c.alone_by_slices.ensures

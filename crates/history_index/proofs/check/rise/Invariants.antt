use Rattle.std.proofs.Common.{◌≡◌, drop}
use Rattle.history_model.specs.Broken.{rise_from}
use Rattle.history_index.proofs.check.rise.Given as goal

abbrev pub invariant-loop-block : goal.invariant-loop-block
invariant-loop-block l = rise_from 0 l.blocks ≡ rise_from l.least (drop l.block-index l.blocks)

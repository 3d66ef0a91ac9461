use Rattle.std.proofs.Common.{take}
use Rattle.window_laws.specs.Blocks.{AreWhole}
use Rattle.window_laws.proofs.blocks.are_whole.Given as goal

abbrev pub invariant-loop-block : goal.invariant-loop-block
invariant-loop-block l = AreWhole (take l.block-index l.blocks)

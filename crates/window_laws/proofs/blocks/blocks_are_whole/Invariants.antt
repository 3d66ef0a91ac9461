use Rattle.std.proofs.Common.{All, take}
use Rattle.window_laws.specs.Blocks.{HasWholeBlocks}
use Rattle.window_laws.proofs.blocks.blocks_are_whole.Given as goal

abbrev pub invariant-loop-entry : goal.invariant-loop-entry
invariant-loop-entry l = All HasWholeBlocks (take l.entry-index l.entries)

use Rattle.std.proofs.Common.{◌≡◌, ◌++◌, ◌%◌, length}
use Rattle.std.specs.Prelude.{flat_map, All}
use Rattle.result_log.specs.States.{block_fields, FitsBlock}
use Rattle.result_log.proofs.starts.read_blocks.Given as goal

abbrev pub invariant-loop-block : goal.invariant-loop-block
invariant-loop-block l = record {
  read : flat_map block_fields l.blocks ++ l.left ≡ l.fields;
  fits : All FitsBlock l.blocks;
  whole : length l.left % 258 ≡ 0;
}

abbrev pub decreases-loop-block : goal.decreases-loop-block
decreases-loop-block l = length l.left

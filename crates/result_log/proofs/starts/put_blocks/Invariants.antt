use Rattle.std.proofs.Common.{◌≡◌, ℕ, ◌<◌, ◌++◌, take, slice_index_or}
use Rattle.std.specs.Prelude.{flat_map}
use Rattle.arn_base.specs.declared.machine.Block.{Block}
use Rattle.result_log.specs.States.{block_fields, FitsBlock}
use Rattle.result_log.proofs.starts.put_blocks.Given as goal

abbrev pub invariant-loop-block : goal.invariant-loop-block
invariant-loop-block l =
    record {
      spelled : l.out.items ≡ l.initial.out.items ++ flat_map block_fields (take l.block-index l.blocks);
      fits : (k : ℕ) (b : Block) → k < l.block-index → FitsBlock (slice_index_or l.blocks k b);
    }

use Rattle.std.proofs.Common.{◌≡◌, ◌+◌, ◌*◌, length, take}
use Rattle.std.specs.Prelude.{flat_map}
use Rattle.result_log.specs.States.{block_fields}
use Rattle.result_log.proofs.len.blocks_len.Given as goal

abbrev pub invariant-loop-block : goal.invariant-loop-block
invariant-loop-block l = record {
  spelled : l.len ≡ 2 + length (flat_map block_fields (take l.block-index l.blocks));
  counted : l.len ≡ 2 + 258 * l.block-index;
}

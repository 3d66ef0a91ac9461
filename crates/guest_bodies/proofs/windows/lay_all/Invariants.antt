use Rattle.std.proofs.Common.{◌≡◌, drop, length}
use Rattle.parts_model.specs.Blocks.{with_blocks}
use Rattle.parts_model.specs.declared.limits.TheConstants.{WINDOW_LEN}
use Rattle.guest_bodies.proofs.windows.lay_all.Given as goal

abbrev pub invariant-loop-block : goal.invariant-loop-block
invariant-loop-block l =
    record {
      laid : with_blocks (drop l.block-index l.blocks) l.space.bytes ≡ with_blocks l.blocks l.fn.space.bytes;
      size : length l.space.bytes ≡ WINDOW_LEN;
    }

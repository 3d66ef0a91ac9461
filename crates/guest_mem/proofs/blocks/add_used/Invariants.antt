use Rattle.std.proofs.Common.{◌≡◌, ℕ, ◌*◌, ◌+◌, List, drop, length, take}
use Rattle.parts_model.specs.Blocks.{used_blocks}
use Rattle.parts_model.specs.declared.limits.TheConstants.{BLOCK_LEN}
use Rattle.guest_mem.proofs.blocks.add_used.Given as goal

abbrev pub invariant-loop-index : goal.invariant-loop-index
invariant-loop-index l = (window : List ℕ) → take (length l.part) (drop (BLOCK_LEN * l.first) window) ≡ l.part → l.initial.blocks ≡ used_blocks window l.first → l.blocks ≡ used_blocks window (l.first + l.index)

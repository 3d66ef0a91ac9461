use Rattle.std.proofs.Common.{◌≡◌, ◌==◌, false, not, take}
use Rattle.std.specs.List.{list_any}
use Rattle.guest_mem.proofs.blocks.is_block_used.Given as goal

abbrev pub invariant-loop-part : goal.invariant-loop-part
invariant-loop-part l = list_any (list_any (λ byte. not (byte == 0))) (take l.part-index l.parts) ≡ false

use Rattle.taint_group.proofs.Carrying.{MemoriesTo}
use Rattle.taint_group.proofs.collects.carry_memories.Given as goal

abbrev pub invariant-loop-key : goal.invariant-loop-key
invariant-loop-key l = MemoriesTo l.fn.carrying l.carrying l.fn.memories.items l.memories.items l.key

use Rattle.std.proofs.Common.{◌≤◌, ℕ}
use Rattle.parts_model.specs.Numbered.{nth}
use Rattle.taint_group.specs.Moves.{HasNoKey}
use Rattle.taint_group.proofs.memories.is_held.Given as goal

abbrev pub invariant-loop-place : goal.invariant-loop-place
invariant-loop-place l = (p : ℕ) → l.place ≤ p → HasNoKey l.key (nth l.members p)

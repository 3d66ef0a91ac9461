use Rattle.std.proofs.Common.{◌≡◌, ◌<◌, ℕ, None}
use Rattle.parts_model.specs.Numbered.{nth}
use Rattle.taint_group.specs.Moves.{held_key}
use Rattle.taint_group.proofs.memories.key_for.Given as goal

abbrev pub invariant-loop-member : goal.invariant-loop-member
invariant-loop-member l = (p : ℕ) → p < l.member-index → held_key l.kind l.event (nth l.members p) ≡ None

use Rattle.std.proofs.Common.{◌≡◌, ◌≤◌, ◌-◌, ℕ, length, max}
use Rattle.std.specs.Prelude.{vec_capacity}
use Rattle.parts_model.specs.Numbered.{nth}
use Rattle.numbered.proofs.numbered.Numbered.make_room.Given as goal

abbrev pub invariant-loop-self : goal.invariant-loop-self
invariant-loop-self g l =
    record {
      capacity : l.wanted ≤ vec_capacity l.self-inside.items;
      longer : length l.initial.self-inside.items.items ≤ length l.self-inside.items.items;
      few : length l.self-inside.items.items ≤ max (length l.initial.self-inside.items.items) l.wanted;
      same : (q : ℕ) → nth l.self-inside.items.items q ≡ nth l.initial.self-inside.items.items q;
    }

abbrev pub decreases-loop-self : goal.decreases-loop-self
decreases-loop-self g l = l.wanted - length l.self-inside.items.items

use Rattle.std.proofs.Common.{◌≡◌, ◌≤◌, ℕ, length}
use Rattle.parts_model.specs.Numbered.{nth}
use Rattle.taint_group.proofs.places.grow.Given as goal

abbrev pub invariant-loop : goal.invariant-loop
invariant-loop g l = record {
  same : (p : ℕ) → nth l.values.items p ≡ nth l.fn.values.items p;
  count : l.counter ≤ length l.values.items;
}

use Rattle.std.proofs.Common.{◌≡◌, ◌≤◌, ◌^◌, ◌+◌, ◌-◌, ℕ, length}
use Rattle.exchange_graph.specs.Rows.{row_of}
use Rattle.exchange_graph.proofs.rows.make_room.Given as goal

abbrev pub invariant-loop-alloc : goal.invariant-loop-alloc
invariant-loop-alloc l =
    record {
      few : length l.rows.items ≤ 2 ^ 32;
      longer : length l.initial.rows.items ≤ length l.rows.items;
      same : (n : ℕ) → row_of l.rows.items n ≡ row_of l.initial.rows.items n;
    }

abbrev pub decreases-loop-alloc : goal.decreases-loop-alloc
decreases-loop-alloc l = (l.number + 1) - length l.rows.items

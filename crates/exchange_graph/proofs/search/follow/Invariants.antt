use Rattle.std.proofs.Common.{◌≡◌, ◌+◌, ℕ, List, length}
use Rattle.exchange_graph.specs.Search.{unmarked, IsUnderWay}
use Rattle.exchange_graph.proofs.search.follow.Given as goal

abbrev pub invariant-loop-next : goal.invariant-loop-next
invariant-loop-next l =
    record {
      same : length l.search.marks ≡ length l.initial.search.marks;
      way : (from : List ℕ) → IsUnderWay l.rows from l.initial.search → IsUnderWay l.rows from l.search;
    }

abbrev pub decreases-loop-next : goal.decreases-loop-next
decreases-loop-next l = unmarked l.search.marks + length l.search.waiting

use Rattle.std.proofs.Common.{◌<◌, ◌≤◌, ◌^◌, take}
use Rattle.std.specs.Prelude.{All}
use Rattle.exchange_graph.proofs.search.room_for.Given as goal

abbrev pub invariant-loop-number : goal.invariant-loop-number
invariant-loop-number l =
    record {
      few : l.room ≤ 2 ^ 32;
      rows : l.rows ≤ l.room;
      below : All (λ n. n < l.room) (take l.number-index l.from);
    }

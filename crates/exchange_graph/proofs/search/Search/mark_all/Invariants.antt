use Rattle.std.proofs.Common.{◌≡◌, ◌<◌, drop, length}
use Rattle.std.specs.Prelude.{All}
use Rattle.exchange_graph.specs.Search.{with_marks}
use Rattle.exchange_graph.proofs.search.Search.mark_all.Given as goal

abbrev pub invariant-loop-number : goal.invariant-loop-number
invariant-loop-number l =
    record {
      inside : All (λ n. n < length l.self.marks) l.numbers;
      rest : with_marks l.self (drop l.number-index l.numbers) ≡ with_marks l.initial.self l.numbers;
    }

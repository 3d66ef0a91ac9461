use Rattle.std.proofs.Common.{◌≡◌, ◌++◌, drop}
use Rattle.exchange_graph.specs.Search.{marked_from}
use Rattle.exchange_graph.proofs.search.marked.Given as goal

abbrev pub invariant-loop-number : goal.invariant-loop-number
invariant-loop-number l = l.numbers ++ marked_from l.number (drop l.number l.marks) ≡ marked_from 0 l.marks

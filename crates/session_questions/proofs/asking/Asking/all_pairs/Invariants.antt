use Rattle.std.proofs.Common.{◌+◌, ◌*◌, ◌^◌, ◌≤◌, drop}
use Rattle.session_questions.proofs.Written.{Leaves}
use Rattle.session_questions.specs.Knows.{Knows}
use Rattle.session_questions.specs.Generated.{writes_cost, generated_cost, writes_from}
use Rattle.session_questions.proofs.asking.Asking.all_pairs.Given as goal

abbrev pub invariant-loop-entry : goal.invariant-loop-entry
invariant-loop-entry g l = record {
  known : Knows l.self l.entries;
  leaves : Leaves l.entries l.pairs (writes_from l.event (drop l.entry-index l.entries));
  cost : l.steps + writes_cost l.entries (writes_from l.event (drop l.entry-index l.entries)) ≤ l.initial.steps + generated_cost l.entries;
  events : l.event ≤ l.entry-index;
  few : l.pairs ≤ 2 ^ 64 * l.entry-index;
}

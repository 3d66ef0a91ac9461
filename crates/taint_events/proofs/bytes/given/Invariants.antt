use Rattle.std.proofs.Common.{◌≡◌, ◌<◌, ℕ, length, slice_index}
use Rattle.taint_members.specs.Access.{number_at}
use Rattle.taint_events.proofs.bytes.given.Given as goal

abbrev pub invariant-loop-k : goal.invariant-loop-k
invariant-loop-k l = record {
  len : length l.numbers.items ≡ l.k;
  same : (j : ℕ) → j < l.k → slice_index l.numbers.items j ≡ number_at l.member l.memories l.at j;
}

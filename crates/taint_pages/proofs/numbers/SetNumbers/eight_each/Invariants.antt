use Rattle.std.proofs.Common.{◌≡◌, ◌<◌, ◌≤◌, ◌+◌, ℕ, length, slice_index}
use Rattle.taint_pages.proofs.numbers.SetNumbers.eight_each.Given as goal

abbrev pub invariant-loop-i : goal.invariant-loop-i
invariant-loop-i l = record {
  len : length l.numbers ≡ 8;
  bytes : (k : ℕ) → k < l.i → slice_index l.numbers k ≡ slice_index l.self (l.at + k);
  zeros : (k : ℕ) → l.i ≤ k → slice_index l.numbers k ≡ 0;
}

use Rattle.std.proofs.Common.{◌≡◌, ◌⊎◌, ◌<◌, ◌≤◌, ◌+◌, ℕ, length, slice_index}
use Rattle.taint_pages.proofs.numbers.SetNumbers.put_each.Given as goal

abbrev pub invariant-loop-i : goal.invariant-loop-i
invariant-loop-i l = record {
  len : length l.self ≡ length l.fn.self;
  put : (k : ℕ) → k < l.i → l.at + k < length l.fn.self → slice_index l.self (l.at + k) ≡ slice_index l.numbers k;
  kept : (k : ℕ) → (k < l.at) ⊎ (l.at + l.i ≤ k) → slice_index l.self k ≡ slice_index l.fn.self k;
}

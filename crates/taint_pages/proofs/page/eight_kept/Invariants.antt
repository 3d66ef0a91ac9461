use Rattle.std.proofs.Common.{◌≡◌, ◌<◌, ◌≤◌, ◌+◌, ℕ, length, slice_index}
use Rattle.taint_pages.proofs.page.eight_kept.Given as goal

abbrev pub invariant-loop-i : goal.invariant-loop-i
invariant-loop-i l = record {
  len : length l.eight ≡ 8;
  bytes : (k : ℕ) → k < l.i → k < l.len → slice_index l.eight k ≡ slice_index l.numbers (l.at + k);
  zeros : (k : ℕ) → l.len ≤ k → slice_index l.eight k ≡ 0;
}

use Rattle.std.proofs.Common.{◌≡◌, ◌<◌, ◌+◌, ℕ, length, slice_index}
use Rattle.taint_pages.specs.Pages.{unset_number}
use Rattle.taint_pages.proofs.page.unset_page.Given as goal

abbrev pub invariant-loop-at : goal.invariant-loop-at
invariant-loop-at l = record {
  len : length l.numbers.items ≡ l.at;
  all : (k : ℕ) → k < l.at → slice_index l.numbers.items k ≡ unset_number l.unset (l.base + k);
}

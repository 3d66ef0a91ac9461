use Rattle.std.proofs.Common.{◌≡◌, ◌<◌, ◌+◌, ℕ, slice_index}
use Rattle.taint_pages.specs.Pages.{unset_number}
use Rattle.taint_pages.proofs.page.have_unset.Given as goal

abbrev pub invariant-loop-i : goal.invariant-loop-i
invariant-loop-i l = (k : ℕ) → k < l.i → slice_index l.numbers k ≡ unset_number l.unset (l.base + l.at + k)

use Rattle.std.proofs.Common.{◌≡◌, take}
use Rattle.guest_mem.specs.Pages.{contents, owned}
use Rattle.guest_mem.proofs.pages.copy.Given as goal

abbrev pub invariant-loop-page : goal.invariant-loop-page
invariant-loop-page l = record {
  bytes : contents l.copies.items ≡ take l.page-index (contents l.pages);
  own : owned l.copies.items ≡ take l.page-index (owned l.pages);
}

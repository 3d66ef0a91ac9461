use Rattle.std.proofs.Common.{◌≡◌, take}
use Rattle.taint_pages.specs.Pages.{contents}
use Rattle.taint_pages.proofs.page.copy.Given as goal

abbrev pub invariant-loop-page : goal.invariant-loop-page
invariant-loop-page l = contents l.copies.items ≡ take l.page-index (contents l.pages)

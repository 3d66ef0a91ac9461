use Rattle.std.proofs.Common.{◌≡◌}
use Rattle.taint_pages.specs.Pages.{contents}
use Rattle.taint_pages.proofs.page.share.Given as goal

abbrev pub invariant-loop-place : goal.invariant-loop-place
invariant-loop-place l = contents l.pages ≡ contents l.fn.pages

use Rattle.std.proofs.Common.{◌≡◌, replicate}
use Rattle.taint_pages.specs.declared.page.Page.TheVariants.{Absent}
use Rattle.taint_pages.proofs.page.absent.Given as goal

abbrev pub invariant-loop : goal.invariant-loop
invariant-loop l = l.pages.items ≡ replicate l.counter Absent

use Rattle.taint_pages.specs.Pages.{contents}
use Rattle.taint_pages.proofs.Carrying.{CarriedTo}
use Rattle.taint_pages.proofs.numbers.carry_pages.Given as goal

abbrev pub invariant-loop-place : goal.invariant-loop-place
invariant-loop-place l = CarriedTo l.fn.carrying l.carrying l.unset (contents l.fn.pages.items) (contents l.pages.items) l.place

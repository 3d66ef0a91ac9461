use Rattle.std.proofs.Common.{List, Some, ℕ, ap, sym, ◌∙◌}
use Rattle.guest_mem.proofs.pages.read_into.Goals as goal

pub returns-clause-ok : goal.returns-clause-ok
returns-clause-ok c = c.in_ok-place.ensures.bytes ∙ ap (λ (l : List ℕ). Some l) (sym c.read.ensures)

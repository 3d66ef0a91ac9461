use Rattle.std.proofs.Common.{List, ℕ, sym, subst}
use Rattle.taint_spans.specs.Sound.{AreSpans, IsCarrying}
use Rattle.taint_spans.proofs.Carried.{carrying-first}
use Rattle.taint_spans.proofs.carrying.Carrying.new.Goals as goal

pub invariant_of-result : goal.invariant_of-result
invariant_of-result c =
    subst (λ (numbers : List ℕ). IsCarrying c.in_ok-new.field-0 c.parts-sets.result.1 c.in_ok-new-2.field-0 numbers) (sym c.new-3.ensures.items)
    (carrying-first c.in_ok-new.field-0 c.parts-sets.result.1 c.in_ok-new-2.field-0
    (subst (λ sets. AreSpans sets c.parts-sets.result.1) (sym c.in_ok-new.ensures) c.parts-sets.ensures.sound) c.in_ok-new-2.ensures)

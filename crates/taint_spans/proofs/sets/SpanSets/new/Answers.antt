use Rattle.std.proofs.Common.{◌≡◌, ◌↔◌, ℕ, List, sym, subst, ◌∙◌, refl}
use Rattle.taint_spans.specs.Numbered.{IsSet}
use Rattle.taint_spans.specs.Sound.{lists_of}
use Rattle.taint_spans.specs.declared.span.Span.{Span}
use Rattle.taint_spans.proofs.Standing.{alone-at, plain-members}
use Rattle.taint_spans.proofs.sets.SpanSets.new.Goals as goal

pub returns-clause-alone : goal.returns-clause-alone
returns-clause-alone c =
    subst (λ (spans : List Span). (set : ℕ) → IsSet (record { sets = c.in_ok-new.field-0; spans = lists_of c.in_ok-new.field-0 spans }) set ↔ (set ≡ 0)) (sym c.in_ok-new-2.ensures)
    (alone-at c.in_ok-new.field-0 c.in_ok-new.ensures.alone)

pub returns-clause-empty : goal.returns-clause-empty
returns-clause-empty c = plain-members (record { sets = c.in_ok-new.field-0; spans = lists_of c.in_ok-new.field-0 c.in_ok-new-2.field-0 }) 0 refl ∙ c.in_ok-new.ensures.empty

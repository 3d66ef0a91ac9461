use Rattle.std.proofs.Common.{inl, inr, sym, ◌∙◌}
use Rattle.arn_lines.proofs.Decimals.{hex_is_no_decimal}
use Rattle.arn_lines.proofs.Options.{IfNone-weaker}
use Rattle.arn_lines.proofs.words.number.Goals as goal

pub returns-in-Some-clause-none : goal.returns-in-Some-clause-none
returns-in-Some-clause-none c =
    IfNone-weaker c.hex_number.result
    (λ none n number.
    elim number.1 [
      | inl decimal ↦ hex_is_no_decimal c.in-Some.digits.now n number.0 (sym c.in-Some.ensures.some ∙ decimal)
      | inr hex ↦ none n (rw c.in-Some.ensures.some at hex)
    ])
    c.hex_number.ensures.none

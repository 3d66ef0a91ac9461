use Rattle.std.proofs.Common.{subst}
use Rattle.arn_lines.specs.Questions.{IsAspect}
use Rattle.arn_lines.proofs.Asks.{no_registers, no_shown_memory}
use Rattle.arn_lines.proofs.Options.{IfNone-mapped}
use Rattle.arn_lines.proofs.questions.aspect.Goals as goal

pub returns-in-Some-clause-none : goal.returns-in-Some-clause-none
returns-in-Some-clause-none c =
    IfNone-mapped c.number.result c.map.result c.map.ensures.variant
    (λ none s is. no_registers c.in-Some.rest.now none s (subst (λ text. IsAspect text s) c.in-Some.ensures.some is))
    c.number.ensures.none

pub returns-in-Some-after-clause-none : goal.returns-in-Some-after-clause-none
returns-in-Some-after-clause-none c =
    IfNone-mapped c.three_numbers.result c.map-in-Some-after.result c.map-in-Some-after.ensures.variant
    (λ none s is. no_shown_memory c.in-Some-after.rest.now none s (subst (λ text. IsAspect text s) c.in-Some-after.ensures.some is))
    c.three_numbers.ensures.none

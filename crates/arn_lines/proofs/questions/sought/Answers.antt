use Rattle.std.proofs.Common.{subst}
use Rattle.arn_lines.specs.Questions.{IsSought}
use Rattle.arn_lines.proofs.Asks.{no_event, no_register}
use Rattle.arn_lines.proofs.Options.{IfNone-mapped}
use Rattle.arn_lines.proofs.questions.sought.Goals as goal

pub returns-in-Some-clause-none : goal.returns-in-Some-clause-none
returns-in-Some-clause-none c =
    IfNone-mapped c.three_numbers.result c.map.result c.map.ensures.variant
    (λ none s is. no_event c.in-Some.rest.now none s (subst (λ text. IsSought text s) c.in-Some.ensures.some is))
    c.three_numbers.ensures.none

pub returns-in-Some-after-2-clause-none : goal.returns-in-Some-after-2-clause-none
returns-in-Some-after-2-clause-none c =
    IfNone-mapped c.three_numbers-in-Some-after-2.result c.map-in-Some-after-2.result c.map-in-Some-after-2.ensures.variant
    (λ none s is. no_register c.in-Some-after-2.rest.now none s (subst (λ text. IsSought text s) c.in-Some-after-2.ensures.some is))
    c.three_numbers-in-Some-after-2.ensures.none

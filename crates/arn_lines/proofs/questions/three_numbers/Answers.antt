use Rattle.std.proofs.Common.{[], ◌∷◌}
use Rattle.arn_lines.proofs.Lists.{AreNumbers-rest}
use Rattle.arn_lines.proofs.questions.three_numbers.Goals as goal

pub returns-in_err-first-clause-none : goal.returns-in_err-first-clause-none
returns-in_err-first-clause-none c =
    rw c.from_residual.ensures (λ a b n are. c.in_err-first.ensures.none a are.0 are.1)

pub returns-in_err-second-clause-none : goal.returns-in_err-second-clause-none
returns-in_err-second-clause-none c =
    rw c.from_residual-in_err-second.ensures
    (λ a b n are. c.in_err-second.ensures.none b n (AreNumbers-rest c.args.text.now c.in_ok-first.rest.now c.in_ok-first.first a b (n ∷ []) c.in_ok-first.ensures.some are))

pub returns-clause-some : goal.returns-clause-some
returns-clause-some c = (c.in_ok-first.rest.now, c.in_ok-first.ensures.some, c.in_ok-second.ensures.some)

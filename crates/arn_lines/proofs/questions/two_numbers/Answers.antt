use Rattle.std.proofs.Common.{[]}
use Rattle.arn_lines.proofs.Lists.{AreNumbers-rest}
use Rattle.arn_lines.proofs.questions.two_numbers.Goals as goal

pub returns-in_err-first-clause-none : goal.returns-in_err-first-clause-none
returns-in_err-first-clause-none c =
    rw c.from_residual.ensures (λ a b are. c.in_err-first.ensures.none a are.0 are.1)

pub returns-in_err-number-clause-none : goal.returns-in_err-number-clause-none
returns-in_err-number-clause-none c =
    rw c.from_residual-in_err-number.ensures
    (λ a b are. c.in_err-number.ensures.none b (AreNumbers-rest c.args.text.now c.in_ok-first.rest.now c.in_ok-first.first a b [] c.in_ok-first.ensures.some are))

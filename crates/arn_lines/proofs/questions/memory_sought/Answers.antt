use Rattle.std.proofs.Common.{[], ◌∷◌, refl}
use Rattle.arn_lines.proofs.Asks.{no_sought_memory}
use Rattle.arn_lines.proofs.Lists.{AreNumbers-rest}
use Rattle.arn_lines.proofs.questions.memory_sought.Goals as goal

pub returns-in_err-moment-clause-none : goal.returns-in_err-moment-clause-none
returns-in_err-moment-clause-none c =
    rw c.from_residual.ensures
    (no_sought_memory c.args.text.now (λ moment pid at len are. c.in_err-moment.ensures.none moment are.0 are.1))

pub returns-in_err-pid-clause-none : goal.returns-in_err-pid-clause-none
returns-in_err-pid-clause-none c =
    rw c.from_residual-in_err-pid.ensures
    (no_sought_memory c.args.text.now
    (λ moment pid at len are.
    c.in_err-pid.ensures.none pid at len (AreNumbers-rest c.args.text.now c.in_ok-moment.rest.now c.in_ok-moment.moment moment pid (at ∷ len ∷ []) c.in_ok-moment.ensures.some are)))

pub returns-clause-some : goal.returns-clause-some
returns-clause-some c = record {
  numbers = c.args.text.now;
  are_numbers = (c.in_ok-moment.rest.now, c.in_ok-moment.ensures.some, c.in_ok-pid.ensures.some);
  is_text = refl;
}

use Rattle.std.proofs.lemmas.Result.{IfOk-from_err}
use Rattle.taint_group.proofs.Groups.{ok-map}
use Rattle.taint_group.proofs.group.hear_empty.Goals as goal

pub returns-in_err-numbers : goal.returns-in_err-numbers
returns-in_err-numbers c = IfOk-from_err c.from_residual.result _ c.from_residual.ensures.0

pub returns : goal.returns
returns c = ok-map c.hear.result (λ hears. (c.in_ok-numbers.numbers.items, c.in_ok-numbers.ensures, hears)) c.hear.ensures

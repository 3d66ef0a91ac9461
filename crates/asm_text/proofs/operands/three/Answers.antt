use Rattle.std.proofs.Common.{[], ◌∷◌}
use Rattle.asm_text.proofs.Cuts.{no_three_operands, operands-three, operands-whole}
use Rattle.asm_text.proofs.operands.three.Goals as goal

pub returns-in_err-first-clause-none : goal.returns-in_err-first-clause-none
returns-in_err-first-clause-none c =
    rw c.from_residual.ensures (λ a b d. operands-whole c.args.text.now a b (d ∷ []) c.in_err-first.ensures.none)

pub returns-in_err-second-clause-none : goal.returns-in_err-second-clause-none
returns-in_err-second-clause-none c =
    rw c.from_residual-in_err-second.ensures
    (λ a b d. no_three_operands c.args.text.now c.in_ok-first.first.now c.in_ok-first.others.now a b d c.in_ok-first.ensures.some c.in_err-second.ensures.none)

pub returns-clause-some : goal.returns-clause-some
returns-clause-some c =
    rw c.trimmed.ensures
    (operands-three c.args.text.now c.in_ok-first.first.now c.in_ok-first.others.now c.in_ok-second.second.now c.in_ok-second.third.now c.in_ok-first.ensures.some c.in_ok-second.ensures.some)

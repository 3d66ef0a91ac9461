use Rattle.asm_text.proofs.Cuts.{no_two_parts}
use Rattle.asm_text.proofs.operands.two.Goals as goal

pub returns-in_err-first-clause-none : goal.returns-in_err-first-clause-none
returns-in_err-first-clause-none c =
    rw c.from_residual.ensures (λ a b. no_two_parts c.args.text.now a b c.in_err-first.ensures.none)

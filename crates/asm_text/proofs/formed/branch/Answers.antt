use Rattle.asm_text.specs.Statements as statement
use Rattle.asm_text.proofs.Shapes.{third-none}
use Rattle.asm_text.proofs.formed.branch.Goals as goal

pub returns-in_err-rs1 : goal.returns-in_err-rs1
returns-in_err-rs1 c =
    rw c.from_residual-in_err-rs1.ensures
    (third-none (statement.Branch c.args.op) statement.label_of (statement.operands c.args.text.now) c.in_ok-first.first.now c.in_ok-first.second.now c.in_ok-first.label.now c.in_ok-label.label.now c.in_ok-first.ensures.some c.in_ok-label.ensures c.in_err-rs1.ensures)

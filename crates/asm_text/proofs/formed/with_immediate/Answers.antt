use Rattle.std.proofs.Common.{refl}
use Rattle.asm_text.specs.Numbers.{number_of}
use Rattle.asm_text.specs.Statements as statement
use Rattle.asm_text.proofs.Shapes.{third-none, third-some}
use Rattle.asm_text.proofs.formed.with_immediate.Goals as goal

pub returns-in_err-rd : goal.returns-in_err-rd
returns-in_err-rd c =
    let number = c.in_ok-imm.ensures in
    rw c.from_residual-in_err-rd.ensures
    (third-none (statement.Imm c.args.op) number_of (statement.operands c.args.text.now) c.in_ok-first.first.now c.in_ok-first.second.now c.in_ok-first.number.now number.0 c.in_ok-first.ensures.some number.2 c.in_err-rd.ensures)

pub returns : goal.returns
returns c =
    let number = c.in_ok-imm.ensures in
    let said = third-some (statement.Imm c.args.op) number_of (statement.operands c.args.text.now) c.in_ok-first.first.now c.in_ok-first.second.now c.in_ok-first.number.now number.0 c.in_ok-rd.rd c.in_ok-rd.rs1 c.in_ok-first.ensures.some number.2 c.in_ok-rd.ensures in
    (statement.Imm c.args.op c.in_ok-rd.rd c.in_ok-rd.rs1 number.0, (number.0, number.1, refl), said)

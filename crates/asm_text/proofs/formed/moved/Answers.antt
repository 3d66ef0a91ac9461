use Rattle.std.proofs.Common.{pos, refl}
use Rattle.rv64_isa.specs.declared.instruction.ImmOp.TheVariants.{Addi}
use Rattle.asm_text.specs.Statements as statement
use Rattle.asm_text.proofs.formed.moved.Goals as goal

pub returns-in_err-rd : goal.returns-in_err-rd
returns-in_err-rd c =
    rw (c.from_residual-in_err-rd.ensures, c.in_ok-first.ensures.some)
    (c.in_err-rd.ensures (λ r s. statement.Imm Addi r s (pos 0)))

pub returns : goal.returns
returns c = (
  statement.Imm Addi c.in_ok-rd.rd c.in_ok-rd.rs1 (pos 0),
  (pos 0, refl, refl),
  rw c.in_ok-first.ensures.some (c.in_ok-rd.ensures (λ r s. statement.Imm Addi r s (pos 0))),
)

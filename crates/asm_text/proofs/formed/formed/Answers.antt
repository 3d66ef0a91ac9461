use Rattle.std.proofs.Common.{refl}
use Rattle.rv64_isa.specs.declared.instruction.ImmOp.TheVariants.{Addi}
use Rattle.asm_text.specs.Statements as statement
use Rattle.asm_text.proofs.formed.formed.Goals as goal

pub returns-in_ok-rd-in-Lui : goal.returns-in_ok-rd-in-Lui
returns-in_ok-rd-in-Lui c =
    let found = c.in_ok-rd-in-Lui.ensures in
    (statement.Lui c.in_ok-rd-in-Lui.rd found.0, (found.0, found.1, refl), rw c.in-Lui.is (found.2 statement.Lui))

pub returns-in_ok-rd-in-Auipc : goal.returns-in_ok-rd-in-Auipc
returns-in_ok-rd-in-Auipc c =
    let found = c.in_ok-rd-in-Auipc.ensures in
    (statement.Auipc c.in_ok-rd-in-Auipc.rd found.0, (found.0, found.1, refl), rw c.in-Auipc.is (found.2 statement.Auipc))

pub returns-in_ok-rd-in-Jalr : goal.returns-in_ok-rd-in-Jalr
returns-in_ok-rd-in-Jalr c =
    let found = c.in_ok-rd-in-Jalr.ensures in
    (statement.Jalr c.in_ok-rd-in-Jalr.rd c.in_ok-rd-in-Jalr.field-0-1.register found.0, (found.0, found.1, refl), rw c.in-Jalr.is (found.2 statement.Jalr))

pub returns-in_ok-rd-in-Load : goal.returns-in_ok-rd-in-Load
returns-in_ok-rd-in-Load c =
    let found = c.in_ok-rd-in-Load.ensures in
    (statement.Load c.in-Load.op c.in_ok-rd-in-Load.rd c.in_ok-rd-in-Load.field-0-1.register found.0, (found.0, found.1, refl), rw c.in-Load.is (found.2 (statement.Load c.in-Load.op)))

pub returns-in_ok-rs2-in-Store : goal.returns-in_ok-rs2-in-Store
returns-in_ok-rs2-in-Store c =
    let found = c.in_ok-rs2-in-Store.ensures in
    (statement.Store c.in-Store.op c.in_ok-rs2-in-Store.field-0-1.register c.in_ok-rs2-in-Store.rs2 found.0, (found.0, found.1, refl), rw c.in-Store.is (found.2 (λ r b n. statement.Store c.in-Store.op b r n)))

pub returns-in_ok-rd-in-Li : goal.returns-in_ok-rd-in-Li
returns-in_ok-rd-in-Li c =
    let found = c.in_ok-rd-in-Li.ensures in
    (statement.Imm Addi c.in_ok-rd-in-Li.rd c.zero.result found.0, (found.0, found.1, refl), rw (c.in-Li.is, c.zero.ensures) (found.2 (λ r n. statement.Imm Addi r 0 n)))

use Rattle.guest_asm.proofs.Sizes.{size_bytes}
use Rattle.guest_asm.proofs.meanings.size.Goals as goal

pub returns-in-Bytes-clause-size : goal.returns-in-Bytes-clause-size
returns-in-Bytes-clause-size c = size_bytes c.args.statement.now c.in-Bytes.operands c.in-Bytes.is c.operand_count.result c.operand_count.ensures.count

use Rattle.guest_asm.proofs.Coding.{code_of_address}
use Rattle.guest_asm.proofs.encoding.code_of.Goals as goal

pub returns-in-Address : goal.returns-in-Address
returns-in-Address c =
    code_of_address c.args.statement.now c.in-Address.rd c.in-Address.label c.args.from c.args.to c.address_code.result c.in-Address.is c.address_code.ensures

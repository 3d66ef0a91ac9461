use Rattle.std.proofs.Common.{sym}
use Rattle.asm_text.proofs.RegisterTable.{made-is, register_of-below}
use Rattle.asm_text.proofs.registers.register_of.Goals as goal

pub returns : goal.returns
returns c =
    let n = c.in_ok-register_number.field-0 in
    let found = sym c.in_ok-register_number.ensures in
    made-is c.new.result _ n c.new.ensures.valid c.new.ensures.number (register_of-below c.args.text.now n found) found

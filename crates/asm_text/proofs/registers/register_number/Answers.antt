use Rattle.std.specs.Fmt.{digits}
use Rattle.asm_text.proofs.registers.register_number.Goals as goal

pub returns : goal.returns
unfolding digits
returns c = c.number_by.ensures

use Rattle.std.proofs.Common.{refl}
use Rattle.asm_text.specs.Statements as statement
use Rattle.asm_text.proofs.formed.counted.Goals as goal

pub returns : goal.returns
returns c =
    let number = c.in_ok-count.ensures in
    (statement.Zeros number.0, (number.0, number.1, refl), rw (c.in_ok-one.ensures.some, number.2) refl)

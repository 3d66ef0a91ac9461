use Rattle.std.proofs.Common.{refl, sym, ◌∙◌}
use Rattle.asm_text.specs.Statements as statement
use Rattle.asm_text.proofs.Cuts.{some_byte}
use Rattle.asm_text.proofs.Shapes.{listed-is}
use Rattle.asm_text.proofs.formed.listed.Goals as goal

pub returns : goal.returns
returns c =
    let some = some_byte c.args.text.now c.is_empty.result c.is_empty.ensures c.if-is_empty.false in
    let said = listed-is c.args.text.now some (sym c.are_numbers.ensures ∙ c.if-not-are_numbers.false) in
    (statement.Bytes said.0, (said.0, said.1, refl), said.2)

use Rattle.std.proofs.Common.{◌≡◌, Some, sym}
use Rattle.asm_text.specs.Characters.{before, is_blank}
use Rattle.asm_text.specs.Statements.{form_of}
use Rattle.asm_text.proofs.Readings.{reading-formed}
use Rattle.asm_text.proofs.reading.worded.Goals as goal

pub returns-in-Some-formed : goal.returns-in-Some-formed
returns-in-Some-formed c =
    let formed = c.in-Some-formed.ensures in
    let known : form_of (before is_blank c.args.text.now) ≡ Some c.in-Some.form = rw c.split_word.ensures.word at (sym c.in-Some.ensures) in
    (formed.0, formed.1, reading-formed c.args.text.now c.in-Some.form formed.0 known (rw c.split_word.ensures.rest at formed.2))

use Rattle.std.proofs.Common.{◌≡◌, ◌+◌, length, drop}
use Rattle.asm_text.specs.Characters as character
use Rattle.asm_text.proofs.characters.word_length.Given as goal

abbrev pub invariant-loop-index : goal.invariant-loop-index
invariant-loop-index l =
    length (character.before character.is_blank l.text) ≡ l.index + length (character.before character.is_blank (drop l.index l.text))

use Rattle.std.proofs.Common.{◌≡◌, length, is_some, map}
use Rattle.asm_text.specs.Characters as character
use Rattle.asm_text.specs.Statements as statement
use Rattle.asm_text.proofs.operands.are_numbers.Given as goal

abbrev pub invariant-loop-first : goal.invariant-loop-first
invariant-loop-first l =
    is_some (statement.numbers_of (map character.trimmed (character.parts 44 l.text)))
    ≡ is_some (statement.numbers_of (map character.trimmed (character.parts 44 l.rest)))

abbrev pub decreases-loop-first : goal.decreases-loop-first
decreases-loop-first l = length l.rest

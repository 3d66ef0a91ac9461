use Rattle.std.proofs.Common.{◌≡◌, length}
use Rattle.asm_text.specs.Characters as character
use Rattle.asm_text.proofs.characters.skip_blanks.Given as goal

abbrev pub invariant-loop-first : goal.invariant-loop-first
invariant-loop-first l = character.skip_blanks l.text ≡ character.skip_blanks l.rest

abbrev pub decreases-loop-first : goal.decreases-loop-first
decreases-loop-first l = length l.rest

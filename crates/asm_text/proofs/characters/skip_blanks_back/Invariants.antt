use Rattle.std.proofs.Common.{◌≡◌, length, reverse}
use Rattle.asm_text.specs.Characters as character
use Rattle.asm_text.proofs.characters.skip_blanks_back.Given as goal

abbrev pub invariant-loop-last : goal.invariant-loop-last
invariant-loop-last l = character.skip_blanks (reverse l.text) ≡ character.skip_blanks (reverse l.rest)

abbrev pub decreases-loop-last : goal.decreases-loop-last
decreases-loop-last l = length l.rest

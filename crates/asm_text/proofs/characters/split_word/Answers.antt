use Rattle.std.proofs.Common.{◌∙◌}
use Rattle.asm_text.specs.Characters.{is_blank}
use Rattle.asm_text.proofs.Cuts.{take-before}
use Rattle.asm_text.proofs.characters.split_word.Goals as goal

pub returns-clause-word : goal.returns-clause-word
returns-clause-word c = c.split_at.ensures.front ∙ rw c.word_length.ensures.value (take-before is_blank c.args.text.now)

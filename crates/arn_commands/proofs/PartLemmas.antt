-- The parts of lines, and of texts that go on.
use Rattle.std.proofs.Common.{◌≡◌, ◌≢◌, ℕ, ◌++◌, true, false, List, [], ◌∷◌, None, Some, refl, ap, ◌∙◌, append_assoc}
use Rattle.arn_lines.specs.Grammar.{block_name}
use Rattle.arn_commands.specs.Lines.{line_feed, lines_of, whole_lines_of}
use Rattle.arn_commands.specs.Parts.{Part, Alone, Block, is_end, onto_block, parts_in, parts_of}
use Rattle.arn_commands.specs.Pieces.{IsOneLine}
use Rattle.arn_commands.specs.Blocks.{NoneEnds}
use Rattle.arn_commands.proofs.LineLemmas.{lines_of-last, lines_of-line, whole_lines_of-line}

-- one more line that doesn't end a block
pub NoneEnds-push : (lines : List (List ℕ)) (line : List ℕ) → NoneEnds lines → is_end line ≡ false → NoneEnds (lines ++ line ∷ [])
NoneEnds-push [] line none e = (e, tt)
NoneEnds-push (l ∷ lines) line none e = (none.0, NoneEnds-push lines line none.1 e)

-- a line in a block
inner_line : (name line : List ℕ) (lines : List (List ℕ)) → is_end line ≡ false → parts_in (Some name) (line ∷ lines) ≡ onto_block line (parts_in (Some name) lines)
inner_line name line lines e = rw e refl

-- lines of a block up to its end
pub parts_in-ended : (name end : List ℕ) (lines more : List (List ℕ)) → NoneEnds lines → is_end end ≡ true → parts_in (Some name) (lines ++ end ∷ more) ≡ Block name lines true ∷ parts_of more
parts_in-ended name end [] more none e = rw e refl
parts_in-ended name end (line ∷ lines) more none e =
    inner_line name line (lines ++ end ∷ more) none.0 ∙ ap (λ (parts : List Part). onto_block line parts) (parts_in-ended name end lines more none.1 e)

-- lines of a block without an end
pub parts_in-unended : (name : List ℕ) (lines : List (List ℕ)) → NoneEnds lines → parts_in (Some name) lines ≡ Block name lines false ∷ []
parts_in-unended name [] none = refl
parts_in-unended name (line ∷ lines) none =
    inner_line name line lines none.0 ∙ ap (λ (parts : List Part). onto_block line parts) (parts_in-unended name lines none.1)

-- a line that opens no block
pub parts_in-alone : (line : List ℕ) (lines : List (List ℕ)) → block_name line ≡ None → parts_in None (line ∷ lines) ≡ Alone line ∷ parts_of lines
parts_in-alone line lines e = rw e refl

-- a line that opens a block
pub parts_in-opened : (name line : List ℕ) (lines : List (List ℕ)) → block_name line ≡ Some name → parts_in None (line ∷ lines) ≡ parts_in (Some name) lines
parts_in-opened name line lines e = rw e refl

-- a text that begins with a line and its LF
line_first : (line rest : List ℕ) → (line ++ line_feed ∷ []) ++ rest ≡ line ++ line_feed ∷ rest
line_first line rest = append_assoc line (line_feed ∷ []) rest

pub lines_of-first : (line rest : List ℕ) → IsOneLine line → lines_of ((line ++ line_feed ∷ []) ++ rest) ≡ line ∷ lines_of rest
lines_of-first line rest one = ap lines_of (line_first line rest) ∙ lines_of-line line rest one

pub whole_lines_of-first : (line rest : List ℕ) → IsOneLine line → whole_lines_of ((line ++ line_feed ∷ []) ++ rest) ≡ line ∷ whole_lines_of rest
whole_lines_of-first line rest one = ap whole_lines_of (line_first line rest) ∙ whole_lines_of-line line rest one

-- a text that is one line without LF
pub lines_of-only : (line : List ℕ) → IsOneLine line → line ≢ [] → lines_of line ≡ line ∷ []
lines_of-only [] one some = absurd (some refl)
lines_of-only (byte ∷ line) one some = lines_of-last byte line one

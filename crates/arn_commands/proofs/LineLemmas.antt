-- The lines of a text that goes on.
use Rattle.std.proofs.Common.{◌≡◌, ◌≢◌, ℕ, suc, ◌++◌, List, [], ◌∷◌, eqb, refl, ap, ◌∙◌, arith}
use Rattle.std.proofs.lemmas.Bool.{cond-false, ne_eqb}
use Rattle.arn_commands.specs.Lines.{line_feed, lines_of, onto_lines, whole_lines_of, onto_whole_lines}
use Rattle.arn_commands.specs.Pieces.{IsOneLine}

-- the first byte of a line, and the others, are no LF
one_head : (byte : ℕ) (line : List ℕ) → IsOneLine (byte ∷ line) → byte ≢ line_feed
one_head byte line one = one 0 0 (omega arith)

one_tail : (byte : ℕ) (line : List ℕ) → IsOneLine (byte ∷ line) → IsOneLine line
one_tail byte line one = λ k d within. one (suc k) d (omega (arith, within))

-- a line with its LF comes before the others
pub lines_of-line : (line rest : List ℕ) → IsOneLine line → lines_of (line ++ (line_feed ∷ rest)) ≡ line ∷ lines_of rest
lines_of-line [] rest one = refl
lines_of-line (byte ∷ line) rest one =
    cond-false (eqb byte line_feed) _ _ (ne_eqb byte line_feed (one_head byte line one)) ∙ ap (λ (lines : List (List ℕ)). onto_lines byte lines) (lines_of-line line rest (one_tail byte line one))

pub whole_lines_of-line : (line rest : List ℕ) → IsOneLine line → whole_lines_of (line ++ (line_feed ∷ rest)) ≡ line ∷ whole_lines_of rest
whole_lines_of-line [] rest one = refl
whole_lines_of-line (byte ∷ line) rest one =
    cond-false (eqb byte line_feed) _ _ (ne_eqb byte line_feed (one_head byte line one)) ∙ ap (λ (lines : List (List ℕ)). onto_whole_lines byte lines) (whole_lines_of-line line rest (one_tail byte line one))

-- a line without its LF is the last one, and isn't whole
pub lines_of-last : (byte : ℕ) (line : List ℕ) → IsOneLine (byte ∷ line) → lines_of (byte ∷ line) ≡ (byte ∷ line) ∷ []
lines_of-last byte [] one = cond-false (eqb byte line_feed) _ _ (ne_eqb byte line_feed (one_head byte [] one))
lines_of-last byte (next ∷ line) one =
    cond-false (eqb byte line_feed) _ _ (ne_eqb byte line_feed (one_head byte (next ∷ line) one)) ∙ ap (λ (lines : List (List ℕ)). onto_lines byte lines) (lines_of-last next line (one_tail byte (next ∷ line) one))

pub whole_lines_of-part : (line : List ℕ) → IsOneLine line → whole_lines_of line ≡ []
whole_lines_of-part [] one = refl
whole_lines_of-part (byte ∷ line) one =
    cond-false (eqb byte line_feed) _ _ (ne_eqb byte line_feed (one_head byte line one)) ∙ ap (λ (lines : List (List ℕ)). onto_whole_lines byte lines) (whole_lines_of-part line (one_tail byte line one))

-- The lines of a text, and which of them are whole.
use Rattle.std.specs.Prelude.{ℕ, ◌==◌, if◌then◌else◌, List, [], ◌∷◌}

-- the byte that ends a line
abbrev pub line_feed : ℕ
line_feed = 10

-- a byte in front of the first line
abbrev pub onto_lines : ℕ → List (List ℕ) → List (List ℕ)
onto_lines byte [] = (byte ∷ []) ∷ []
onto_lines byte (line ∷ lines) = (byte ∷ line) ∷ lines

-- the lines of a text: each ends at LF or at the text's end
abbrev pub lines_of : List ℕ → List (List ℕ)
lines_of [] = []
lines_of (byte ∷ text) = if byte == line_feed then [] ∷ lines_of text else onto_lines byte (lines_of text)

-- the lines of a text that end at LF: what follows the last LF is none
abbrev pub onto_whole_lines : ℕ → List (List ℕ) → List (List ℕ)
onto_whole_lines byte [] = []
onto_whole_lines byte (line ∷ lines) = (byte ∷ line) ∷ lines

abbrev pub whole_lines_of : List ℕ → List (List ℕ)
whole_lines_of [] = []
whole_lines_of (byte ∷ text) = if byte == line_feed then [] ∷ whole_lines_of text else onto_whole_lines byte (whole_lines_of text)

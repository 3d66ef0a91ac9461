-- The parts of a text: lines, statements, words and operands.
use Rattle.std.specs.Prelude.{ℕ, ◌==◌, ◌&&◌, ◌||◌, nat_le, Bool, if◌then◌else◌, List, [], ◌∷◌, map, reverse}

-- spaces and tabs
abbrev pub is_blank : ℕ → Bool
is_blank c = (c == 32) || (c == 9)

abbrev pub is_digit : ℕ → Bool
is_digit c = nat_le 48 c && nat_le c 57

abbrev pub is_letter : ℕ → Bool
is_letter c = (nat_le 65 c && nat_le c 90) || (nat_le 97 c && nat_le c 122)

-- a text from its first byte on that is no blank
abbrev pub skip_blanks : List ℕ → List ℕ
skip_blanks [] = []
skip_blanks (c ∷ text) = if is_blank c then skip_blanks text else c ∷ text

-- a text without the blanks at both ends
abbrev pub trimmed : List ℕ → List ℕ
trimmed text = reverse (skip_blanks (reverse (skip_blanks text)))

-- what stands in front of the first such byte, or all
abbrev pub before : (ℕ → Bool) → List ℕ → List ℕ
before stops [] = []
before stops (c ∷ text) = if stops c then [] else c ∷ before stops text

-- a byte in front of the first part
abbrev pub onto_first : ℕ → List (List ℕ) → List (List ℕ)
onto_first c [] = (c ∷ []) ∷ []
onto_first c (part ∷ parts) = (c ∷ part) ∷ parts

-- the parts between separators: one more than there are separators
abbrev pub parts : ℕ → List ℕ → List (List ℕ)
parts separator [] = [] ∷ []
parts separator (c ∷ text) = if c == separator then [] ∷ parts separator text else onto_first c (parts separator text)

-- lines end at LF, `#` begins a comment, and statements are separated by `;`
abbrev pub lines : List ℕ → List (List ℕ)
lines text = parts 10 text

abbrev pub without_comment : List ℕ → List ℕ
without_comment line = before (λ c. c == 35) line

abbrev pub statements : List ℕ → List (List ℕ)
statements line = map trimmed (parts 59 (without_comment line))

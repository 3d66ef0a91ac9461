-- The pieces that a line is split into.
use Rattle.std.specs.Prelude.{◌≡◌, ◌≢◌, ℕ, ◌<◌, ◌≤◌, ◌⊎◌, List, ◌++◌, All, codes, slice_index}
use Rattle.arn_lines.specs.declared.line.Line.{Line}
use Rattle.arn_lines.specs.declared.line.Question.{Question}
use Rattle.arn_lines.specs.Words.{space}
use Rattle.arn_lines.specs.Questions.{IsQuestion}
use Rattle.arn_lines.specs.Grammar.{IsLine}

-- the byte is no space
abbrev pub IsNoSpace : ℕ → Type 0
IsNoSpace c = c ≢ 32

-- the word ends at the first space of the text, and the rest stands behind that
pub record IsFirstWord (text word rest : List ℕ) : Type 0 where
  pub is_text : text ≡ word ++ space ++ rest
  pub no_space : All IsNoSpace word

-- the text is `0`, or begins with another decimal digit
abbrev pub IsUnpadded : List ℕ → Type 0
IsUnpadded text = (text ≡ codes "0") ⊎ ((49 ≤ slice_index text 0) × (slice_index text 0 ≤ 57))

-- the text is no line of the grammar
abbrev pub SaysNothing : List ℕ → Type 0
SaysNothing text = (l : Line) → ¬ IsLine text l

-- the text asks nothing about the history
abbrev pub AsksNothing : List ℕ → Type 0
AsksNothing text = (q : Question) → ¬ IsQuestion text q

-- the old text, and behind it nothing or something that begins with an ASCII character
pub record LeavesFront (old new : List ℕ) : Type 0 where
  pub more : List ℕ
  pub is_text : new ≡ old ++ more
  pub is_cut : slice_index more 0 < 128

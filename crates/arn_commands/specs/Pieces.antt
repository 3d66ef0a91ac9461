-- How lines are read.
use Rattle.std.specs.Prelude.{◌≡◌, ◌≢◌, ◌<◌, ◌⊎◌, ℕ, Bool, true, false, List, [], ◌∷◌, ◌++◌, length, All, Option}
use Rattle.arn_lines.specs.declared.line.TheConstants.{MOST_LINE}
use Rattle.arn_commands.specs.Lines.{line_feed}
use Rattle.arn_commands.specs.Reader.{ReaderState, Uses}

-- no LF stands in the line
abbrev pub IsOneLine : List ℕ → Type 0
IsOneLine line = All (λ byte. byte ≢ line_feed) line

-- what is kept of a line: all of it, or more than a line may have
pub record IsKept (line kept : List ℕ) : Type 0 where
  pub dropped : List ℕ
  pub is_line : line ≡ kept ++ dropped
  pub enough : (dropped ≡ []) ⊎ (MOST_LINE < length kept)

-- what ends a line: LF, where there is one
abbrev pub line_end : Bool → List ℕ
line_end true = line_feed ∷ []
line_end false = []

-- the bytes ahead of a line up to its end were moved to those that were kept of it
pub record MovesLine (end : List ℕ) (before after : ReaderState) (kept_before kept_after : List ℕ) : Type 0 where
  pub more : List ℕ
  pub is_one : IsOneLine more
  pub are_kept : (line : List ℕ) → IsKept line kept_before → IsKept (line ++ more) kept_after
  pub were_ahead : before.ahead ≡ more ++ (end ++ after.ahead)

-- a line was read to its end, and this is kept of it
pub record ReadsLine (end : List ℕ) (before after : ReaderState) (left_before left_after : Option (List ℕ)) (kept : List ℕ) : Type 0 where
  pub line : List ℕ
  pub is_one : IsOneLine line
  pub is_kept : IsKept line kept
  pub used : Uses (line ++ end) before after left_before left_after

-- The parts of a text: lines that stand by themselves, and blocks.
use Rattle.std.specs.Prelude.{ℕ, Bool, true, false, if◌then◌else◌, List, [], ◌∷◌, ◌++◌, filter, Option, Some, None, bytes_eq, codes}
use Rattle.arn_lines.specs.Grammar.{block_name}
use Rattle.arn_commands.specs.Lines.{lines_of, whole_lines_of}

pub data Part : Type 0 where
  -- a line by itself
  Alone : List ℕ → Part
  -- a line `asm NAME`: the name, the lines behind it, and whether a line `end` stands behind these
  Block : List ℕ → List (List ℕ) → Bool → Part

-- a line in front of the lines of the first block
abbrev pub onto_block : List ℕ → List Part → List Part
onto_block line [] = []
onto_block line (Alone other ∷ parts) = Alone other ∷ parts
onto_block line (Block name lines is_ended ∷ parts) = Block name (line ∷ lines) is_ended ∷ parts

-- the line ends a block
abbrev pub is_end : List ℕ → Bool
is_end line = bytes_eq line (codes "end")

-- a line outside of blocks is a part by itself, but where it opens a block of this name
abbrev pub unless_opened : Option (List ℕ) → List ℕ → List Part
unless_opened None line = Alone line ∷ []
unless_opened (Some name) line = []

-- the parts of lines that begin outside of blocks, or in a block of this name
abbrev pub parts_in : Option (List ℕ) → List (List ℕ) → List Part
parts_in None [] = []
parts_in None (line ∷ lines) = unless_opened (block_name line) line ++ parts_in (block_name line) lines
parts_in (Some name) [] = Block name [] false ∷ []
parts_in (Some name) (line ∷ lines) =
    if is_end line then Block name [] true ∷ parts_in None lines else onto_block line (parts_in (Some name) lines)

-- the parts of lines
abbrev pub parts_of : List (List ℕ) → List Part
parts_of lines = parts_in None lines

-- the parts of a text
abbrev pub text_parts : List ℕ → List Part
text_parts text = parts_of (lines_of text)

-- a block without an `end` isn't whole
abbrev pub is_whole : Part → Bool
is_whole (Alone line) = true
is_whole (Block name lines is_ended) = is_ended

-- the whole parts of a text, of which each line ends at LF
abbrev pub whole_parts : List ℕ → List Part
whole_parts text = filter is_whole (parts_of (whole_lines_of text))

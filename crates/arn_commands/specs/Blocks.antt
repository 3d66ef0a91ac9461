-- Blocks whose lines are read.
use Rattle.std.specs.Prelude.{◌≡◌, ◌≤◌, ℕ, true, false, List, [], ◌∷◌, ◌++◌, length, filter, Option, Some, None, IsTrue}
use Rattle.arn_lines.specs.Words.{is_name}
use Rattle.arn_commands.specs.declared.command.Command.{Command}
use Rattle.arn_commands.specs.declared.next.Next.{Next}
use Rattle.arn_commands.specs.declared.next.Next.TheVariants.{More, Last, End}
use Rattle.arn_commands.specs.Lines.{lines_of, whole_lines_of}
use Rattle.arn_commands.specs.Parts.{Part, Block, is_end, is_whole, parts_in, text_parts, whole_parts}
use Rattle.arn_commands.specs.Commands.{Asks, program_text}
use Rattle.arn_commands.specs.Reader.{ReaderState, Uses, IsAtEnd}

-- a block so far: its name, its program's text and of how many lines that is
pub record BlockState : Type 0 where
  pub name : List ℕ
  pub text : List ℕ
  pub lines : ℕ

-- a name, and a line takes a byte of the text at least
pub record IsBlockSound (name : List ℕ) (text lines : ℕ) : Type 0 where
  pub is_named : IsTrue (is_name name)
  pub few : lines ≤ text

-- a block without lines
abbrev pub fresh_block : List ℕ → BlockState
fresh_block name = record { name = name; text = []; lines = 0 }

-- no line ends a block
abbrev pub NoneEnds : List (List ℕ) → Type 0
NoneEnds [] = Unit {0}
NoneEnds (line ∷ lines) = (is_end line ≡ false) × NoneEnds lines

-- these lines stand behind the first one of a block, and its end doesn't yet
pub record HoldsLines (block : BlockState) (lines : List (List ℕ)) : Type 0 where
  pub none_ends : NoneEnds lines
  pub is_text : block.text ≡ program_text lines
  pub is_count : block.lines ≡ length lines

-- the lines are the rest of one part, outside of blocks or in a block of this name, and ask for this
pub record IsLastPart (opened : Option (List ℕ)) (lines : List (List ℕ)) (command : Command) : Type 0 where
  pub part : Part
  pub is_last : parts_in opened lines ≡ part ∷ []
  pub asks : Asks part command

-- this is the last line of a text, which asks for this, or there is none
abbrev pub EndsText : List ℕ → Next → Type 0
EndsText line (More command) = ⊥
EndsText line (Last command) = IsLastPart None (lines_of line) command
EndsText line End = line ≡ []

-- lines of a block of this name were read up to its `end`, and the block asks for this
pub record ReadsWholeBlock (name : List ℕ) (command : Command) (before after : ReaderState) (left_before left_after : Option (List ℕ)) : Type 0 where
  pub bytes : List ℕ
  pub lines : List (List ℕ)
  pub used : Uses bytes before after left_before left_after
  pub parts : (rest : List ℕ) → parts_in (Some name) (lines_of (bytes ++ rest)) ≡ Block name lines true ∷ text_parts rest
  pub wholes : (rest : List ℕ) → filter is_whole (parts_in (Some name) (whole_lines_of (bytes ++ rest))) ≡ Block name lines true ∷ whole_parts rest
  pub asks : Asks (Block name lines true) command

-- lines of a block of this name were read up to the text's end, and the block asks for this
pub record ReadsLastBlock (name : List ℕ) (command : Command) (before after : ReaderState) (left_before left_after : Option (List ℕ)) : Type 0 where
  pub bytes : List ℕ
  pub used : Uses bytes before after left_before left_after
  pub last : IsLastPart (Some name) (lines_of bytes) command
  pub none_whole : filter is_whole (parts_in (Some name) (whole_lines_of bytes)) ≡ []
  pub at_end : IsAtEnd after left_after

-- the rest of a block of this name was read
abbrev pub ReadsBlock : List ℕ → Next → ReaderState → ReaderState → Option (List ℕ) → Option (List ℕ) → Type 0
ReadsBlock name (More command) before after left_before left_after = ReadsWholeBlock name command before after left_before left_after
ReadsBlock name (Last command) before after left_before left_after = ReadsLastBlock name command before after left_before left_after
ReadsBlock name End before after left_before left_after = ⊥

-- lines of a block of this name were read, and not its end
pub record ReadsNoBlock (name : List ℕ) (before after : ReaderState) (left_before left_after : Option (List ℕ)) : Type 0 where
  pub bytes : List ℕ
  pub used : Uses bytes before after left_before left_after
  pub none_whole : filter is_whole (parts_in (Some name) (whole_lines_of bytes)) ≡ []

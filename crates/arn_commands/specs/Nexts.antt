-- What was read of a text.
use Rattle.std.specs.Prelude.{◌≡◌, List, [], ◌∷◌, ◌++◌, ℕ, Option}
use Rattle.arn_commands.specs.declared.command.Command.{Command}
use Rattle.arn_commands.specs.declared.next.Next.{Next}
use Rattle.arn_commands.specs.declared.next.Next.TheVariants.{More, Last, End}
use Rattle.arn_commands.specs.Parts.{Part, text_parts, whole_parts}
use Rattle.arn_commands.specs.Commands.{Asks}
use Rattle.arn_commands.specs.Reader.{ReaderState, Uses, IsAtEnd}
use Rattle.arn_commands.specs.Sizes.{Fits}

-- the bytes are a whole part, whatever stands behind them
pub record IsWholePart (bytes : List ℕ) (part : Part) : Type 0 where
  pub parts : (rest : List ℕ) → text_parts (bytes ++ rest) ≡ part ∷ text_parts rest
  pub wholes : (rest : List ℕ) → whole_parts (bytes ++ rest) ≡ part ∷ whole_parts rest

-- a whole part was read, and asks for this
pub record ReadsMore (command : Command) (before after : ReaderState) (left_before left_after : Option (List ℕ)) : Type 0 where
  pub bytes : List ℕ
  pub part : Part
  pub used : Uses bytes before after left_before left_after
  pub is_whole : IsWholePart bytes part
  pub asks : Asks part command

-- the last part was read, which isn't whole: it ends with the text
pub record ReadsLast (command : Command) (before after : ReaderState) (left_before left_after : Option (List ℕ)) : Type 0 where
  pub bytes : List ℕ
  pub part : Part
  pub used : Uses bytes before after left_before left_after
  pub is_last : text_parts bytes ≡ part ∷ []
  pub none_whole : whole_parts bytes ≡ []
  pub at_end : IsAtEnd after left_after
  pub asks : Asks part command

-- the text is at its end
pub record ReadsEnd (before after : ReaderState) (left_before left_after : Option (List ℕ)) : Type 0 where
  pub used : Uses [] before after left_before left_after
  pub at_end : IsAtEnd after left_after

-- what was read
abbrev pub ReadsNext : Next → ReaderState → ReaderState → Option (List ℕ) → Option (List ℕ) → Type 0
ReadsNext (More command) before after left_before left_after = ReadsMore command before after left_before left_after
ReadsNext (Last command) before after left_before left_after = ReadsLast command before after left_before left_after
ReadsNext End before after left_before left_after = ReadsEnd before after left_before left_after

-- some bytes were read, and no whole part
pub record ReadsPart (before after : ReaderState) (left_before left_after : Option (List ℕ)) : Type 0 where
  pub bytes : List ℕ
  pub used : Uses bytes before after left_before left_after
  pub none_whole : whole_parts bytes ≡ []

-- what comes next fits the machine
abbrev pub NextFits : Next → Type 0
NextFits (More command) = Fits command
NextFits (Last command) = Fits command
NextFits End = Unit {0}

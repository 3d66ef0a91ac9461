-- What a session over a text prints.
use Rattle.std.specs.Prelude.{◌≡◌, ℕ, false, List}
use Rattle.arn_base.specs.declared.records.Record.{Record}
use Rattle.arn_commands.specs.declared.command.Command.{Command}
use Rattle.arn_commands.specs.Parts.{text_parts}
use Rattle.arn_commands.specs.Commands.{EachAsks}
use Rattle.guest_legs.specs.Legs.{Picked}
use Rattle.session_questions.specs.Texts.{told}
use Rattle.session_commands.specs.Given.{Given, given}
use Rattle.session_text.specs.Transcript.{text_of}

-- a session that is handed no devices
abbrev pub no_devices : Given
no_devices = given told (λ n. false)

-- every part of the text was answered on this history by a session that was handed this, with some slices, and nothing else was printed
pub record Prints (g : Given) (history : List Record) (text printed : List ℕ) : Type 0 where
  pub commands : List Command
  pub each_asks : EachAsks (text_parts text) commands
  pub slices : List Picked
  pub all : printed ≡ text_of g history commands slices

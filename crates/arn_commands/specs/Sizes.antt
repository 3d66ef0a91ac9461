-- How much a command holds.
use Rattle.std.specs.Prelude.{ℕ, ◌<◌, ◌≤◌, ◌^◌, List, length, IsTrue}
use Rattle.parts_model.specs.declared.limits.TheConstants.{MOST_FILE_BYTES}
use Rattle.parts_model.specs.Files.{is_name}
use Rattle.parts_model.specs.Image.{is_image}
use Rattle.arn_lines.specs.declared.line.Line.{Line}
use Rattle.arn_lines.specs.declared.line.Line.TheVariants as line
use Rattle.arn_lines.specs.declared.line.TheConstants.{MOST_RUN}
use Rattle.arn_commands.specs.declared.command.Command.{Command}
use Rattle.arn_commands.specs.declared.command.Command.TheVariants.{PassedOver, TooLong, Unreadable, Says, Faulty, Generates}

-- names, files, pieces and counts that the machine takes; a line that brings none of them fits
abbrev pub LineFits : Line → Type 0
LineFits (line.File name bytes) = IsTrue (is_name name) × (length bytes ≤ MOST_FILE_BYTES)
LineFits (line.Boot name) = IsTrue (is_name name)
LineFits (line.Type bytes) = length bytes < 2 ^ 32
LineFits (line.Run count) = count ≤ MOST_RUN
LineFits l = Unit {0}

-- an image that the machine takes as a file and boots
pub record IsBootable (image : List ℕ) : Type 0 where
  pub is_image : IsTrue (is_image image)
  pub fits : length image ≤ MOST_FILE_BYTES

-- what a command holds
abbrev pub Fits : Command → Type 0
Fits PassedOver = Unit {0}
Fits TooLong = Unit {0}
Fits Unreadable = Unit {0}
Fits (Says l) = LineFits l
Fits (Faulty at) = Unit {0}
Fits (Generates image typed processes) = IsBootable image × (length typed < 2 ^ 32)

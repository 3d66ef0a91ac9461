-- What the parts of a text ask for.
use Rattle.std.specs.Prelude.{◌≡◌, ℕ, ◌+◌, nat_lt, Bool, true, false, if◌then◌else◌, List, [], ◌∷◌, ◌++◌, length, flat_map, Option, Some, None, codes}
use Rattle.arn_lines.specs.declared.line.Line.TheVariants as line
use Rattle.arn_lines.specs.declared.line.LineReading.{LineReading}
use Rattle.arn_lines.specs.declared.line.LineReading.TheVariants as reading
use Rattle.arn_lines.specs.declared.line.TheConstants.{MOST_LINE}
use Rattle.arn_lines.specs.Grammar.{Reads}
use Rattle.guest_asm.specs.Assembled.{Fault, fault_of, image_of_text}
use Rattle.arn_commands.specs.declared.command.Command.{Command}
use Rattle.arn_commands.specs.declared.command.Command.TheVariants.{PassedOver, TooLong, Unreadable, Says, Faulty, Generates}
use Rattle.generator.specs.Program as generator
use Rattle.generator.specs.Typed.{typed_bytes}
use Rattle.arn_commands.specs.Lines.{line_feed}
use Rattle.arn_commands.specs.Parts.{Part, Alone, Block}

-- a line of a block that is too long stands for a statement that there isn't
abbrev pub no_statement : List ℕ
no_statement = codes "?"

-- what a line of a block is in the program's text, with its LF
abbrev pub program_line : List ℕ → List ℕ
program_line line = (if nat_lt MOST_LINE (length line) then no_statement else line) ++ line_feed ∷ []

-- the program's text that the lines of a block give
abbrev pub program_text : List (List ℕ) → List ℕ
program_text lines = flat_map program_line lines

-- the first faulty line of a block, from 1: where no line has a fault, a block without `end` lacks the line behind its last one
abbrev pub faulty_line : List (List ℕ) → Bool → Option Fault → Option ℕ
faulty_line lines is_ended (Some fault) = Some fault.line
faulty_line lines true None = None
faulty_line lines false None = Some (length lines + 1)

-- a block says what a `file` line of its program's image says, but where it has a faulty line
abbrev pub block_command : List ℕ → List (List ℕ) → Option ℕ → Command
block_command name lines None = Says (line.File name (image_of_text (program_text lines)))
block_command name lines (Some at) = Faulty at

-- the generator's program, with the bytes that a seed gives; it would be refused as a block of its text, if it had a fault
abbrev pub generator_command : ℕ → ℕ → Option Fault → Command
generator_command seed processes None = Generates (image_of_text (generator.program_text processes)) (typed_bytes seed) processes
generator_command seed processes (Some fault) = Faulty fault.line

-- what a line that reads so asks for
abbrev pub line_command : LineReading → Command
line_command reading.PassedOver = PassedOver
line_command reading.TooLong = TooLong
line_command reading.Unreadable = Unreadable
line_command (reading.Says l) = Says l
line_command (reading.Generates seed processes) = generator_command seed processes (fault_of (generator.program_text processes))

-- what a part asks for
abbrev pub Asks : Part → Command → Type 0
Asks (Alone line) command = (reading : LineReading) × Reads line reading × (command ≡ line_command reading)
Asks (Block name lines is_ended) command =
    command ≡ block_command name lines (faulty_line lines is_ended (fault_of (program_text lines)))

-- each part asks for this
abbrev pub EachAsks : List Part → List Command → Type 0
EachAsks [] [] = Unit {0}
EachAsks (part ∷ parts) (command ∷ commands) = Asks part command × EachAsks parts commands
EachAsks _ _ = ⊥

-- a part asks for one thing
abbrev pub AsksOneWay : Type 0
AsksOneWay = (part : Part) (a b : Command) → Asks part a → Asks part b → a ≡ b

-- What a command does on a recorded history, by the slices to come.
use Rattle.std.specs.Prelude.{Bool, false, ◌&&◌, List, Option, Some, None, is_none}
use Rattle.arn_base.specs.declared.records.Record.{Record}
use Rattle.arn_lines.specs.declared.answer.Refusal.{Refusal}
use Rattle.arn_lines.specs.declared.answer.Refusal.TheVariants.{NoLong, NoLine}
use Rattle.arn_lines.specs.Texts.{refusal_text}
use Rattle.arn_commands.specs.declared.command.Command.{Command}
use Rattle.arn_commands.specs.declared.command.Command.TheVariants.{PassedOver, TooLong, Unreadable, Says, Faulty, Generates}
use Rattle.session_runs.specs.Turns.{Point, finished, prints}
use Rattle.session_commands.specs.Generator.{generator_turn}
use Rattle.session_commands.specs.Given.{Given}
use Rattle.session_commands.specs.Refusals.{fault_refusal, generator_refusal}
use Rattle.session_commands.specs.Rows.{row_of}

-- why a command is refused, if it is
abbrev pub command_refusal : Given → List Record → Command → Option Refusal
command_refusal g history PassedOver = None
command_refusal g history TooLong = Some NoLong
command_refusal g history Unreadable = Some NoLine
command_refusal g history (Says l) = (row_of g history l).refusal
command_refusal g history (Faulty at) = Some (fault_refusal history at)
command_refusal g history (Generates image typed processes) = generator_refusal history

-- a refusal is printed, and changes nothing
abbrev pub turn_unless : Option Refusal → Point → Point
turn_unless (Some why) goes_on = prints (refusal_text why)
turn_unless None goes_on = goes_on

-- what any command does
abbrev pub turn : Given → List Record → Command → Point
turn g history PassedOver = finished
turn g history TooLong = prints (refusal_text NoLong)
turn g history Unreadable = prints (refusal_text NoLine)
turn g history (Says l) = turn_unless (row_of g history l).refusal (row_of g history l).turn
turn g history (Faulty at) = prints (refusal_text (fault_refusal history at))
turn g history (Generates image typed processes) = turn_unless (generator_refusal history) (generator_turn g.told history image typed processes)

-- the command needs the running machine: it isn't refused, and says a line that does
abbrev pub needs_machine : Given → List Record → Command → Bool
needs_machine g history PassedOver = false
needs_machine g history TooLong = false
needs_machine g history Unreadable = false
needs_machine g history (Says l) = (row_of g history l).needs_machine && is_none (row_of g history l).refusal
needs_machine g history (Faulty at) = false
needs_machine g history (Generates image typed processes) = is_none (generator_refusal history)

-- A bound on the instructions that are executed to answer a command, beside those of the slices that it takes.
use Rattle.std.specs.Prelude.{ℕ, ◌+◌, ◌++◌, Bool, if◌then◌else◌, List, is_none}
use Rattle.arn_base.specs.declared.records.Record.{Record}
use Rattle.guest_machine.specs.Again.{rebuild_cost}
use Rattle.arn_commands.specs.declared.command.Command.{Command}
use Rattle.arn_commands.specs.declared.command.Command.TheVariants.{PassedOver, TooLong, Unreadable, Says, Faulty, Generates}
use Rattle.session_effects.specs.Effects.{committed}
use Rattle.session_runs.specs.Turns.{Turn}
use Rattle.session_commands.specs.Given.{Given}
use Rattle.session_commands.specs.Lines.{needs_machine}
use Rattle.session_commands.specs.Refusals.{generator_refusal}
use Rattle.session_commands.specs.Rows.{row_of}

-- what a command costs beside what it needs the machine for, by the history before and behind it
abbrev pub asked_cost : Given → List Record → List Record → Command → ℕ
asked_cost g history behind PassedOver = 0
asked_cost g history behind TooLong = 0
asked_cost g history behind Unreadable = 0
asked_cost g history behind (Says l) = (row_of g history l).cost
asked_cost g history behind (Faulty at) = 0
asked_cost g history behind (Generates image typed processes) = if is_none (generator_refusal history) then g.told.generated_cost behind else 0

-- where the machine isn't there yet, it is made by running the history again
abbrev pub machine_cost : Bool → List Record → ℕ
machine_cost is_there history = if is_there then 0 else rebuild_cost history

-- a command, where the machine is there or isn't yet
abbrev pub cost : Given → Bool → List Record → List Record → Command → ℕ
cost g is_there history behind command =
    (if needs_machine g history command then machine_cost is_there history else 0) + asked_cost g history behind command

-- the same of what it does by the slices to come
abbrev pub cost_of_turn : Given → Bool → List Record → Command → Turn → ℕ
cost_of_turn g is_there history command t = cost g is_there history (history ++ committed t.effects) command

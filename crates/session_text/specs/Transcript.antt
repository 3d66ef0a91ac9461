-- What the commands of a session do, one behind the other, by the slices to come.
use Rattle.std.specs.Prelude.{ℕ, ◌+◌, Bool, if◌then◌else◌, List, [], ◌∷◌, ◌++◌, Option, Some, None}
use Rattle.std.specs.List.{list_any}
use Rattle.arn_base.specs.declared.records.Record.{Record}
use Rattle.arn_commands.specs.declared.command.Command.{Command}
use Rattle.guest_machine.specs.Again.{rebuild_cost}
use Rattle.guest_legs.specs.Legs.{Picked}
use Rattle.session_effects.specs.Effects.{committed, printed}
use Rattle.session_runs.specs.Turns.{Point, Turn, finished, followed_by}
use Rattle.session_commands.specs.Cost.{asked_cost}
use Rattle.session_commands.specs.Given.{Given}
use Rattle.session_commands.specs.Lines.{needs_machine, turn}

-- the history behind a turn
abbrev pub history_behind : List Record → Turn → List Record
history_behind history t = history ++ committed t.effects

-- what commands do
abbrev pub transcript : Given → List Record → List Command → Point
transcript g history [] slices = finished slices
transcript g history (command ∷ commands) slices =
    let t = turn g history command slices in
    followed_by t t.left (transcript g (history_behind history t) commands)

-- the text that is printed for these commands
abbrev pub text_of : Given → List Record → List Command → List Picked → List ℕ
text_of g history commands slices = printed (transcript g history commands slices).effects

-- One of these commands needs the machine. Up to the first that does nothing is committed, so that the history is that of the beginning.
abbrev pub needs_any : Given → List Record → List Command → Bool
needs_any g history commands = list_any (needs_machine g history) commands

-- what the questions among these commands cost that are reached
abbrev pub unless_cut_off : Option (List Picked) → (List Picked → ℕ) → ℕ
unless_cut_off None cost = 0
unless_cut_off (Some rest) cost = cost rest

abbrev pub asked_costs : Given → List Record → List Command → List Picked → ℕ
asked_costs g history [] slices = 0
asked_costs g history (command ∷ commands) slices =
    let t = turn g history command slices in
    asked_cost g history (history_behind history t) command + unless_cut_off t.left (asked_costs g (history_behind history t) commands)

-- all that these commands cost beside the slices that they take: the machine is made once, where one of them needs it
abbrev pub total_cost : Given → List Record → List Command → List Picked → ℕ
total_cost g history commands slices =
    (if needs_any g history commands then rebuild_cost history else 0) + asked_costs g history commands slices

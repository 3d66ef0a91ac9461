-- A group's part of a run.
use Rattle.std.specs.Prelude.{ℕ, ◌==◌, Bool, true, false, if◌then◌else◌, List, [], ◌∷◌, ◌++◌, Option, Some, None}
use Rattle.arn_base.specs.declared.records.Record.{Record}
use Rattle.arn_base.specs.declared.records.Record.TheVariants as entry
use Rattle.arn_base.specs.declared.records.Start.{Start}
use Rattle.acts_model.specs.Moved.{Event, Inside}
use Rattle.acts_model.specs.Records.{child_called, child_start}
use Rattle.arn_model.specs.Run.{Input, run, within}
use Rattle.arn_model.specs.Step.{Step}
use Rattle.history_model.specs.Alone.{begin_inside}
use Rattle.history_model.specs.Groups.{Groups, group_of, is_number}
use Rattle.log_model.specs.Records.{records}

-- what a process of the group does
abbrev pub is_own : Groups → ℕ → Option ℕ → Bool
is_own groups g None = false
is_own groups g (Some pid) = is_number g (groups pid)

abbrev pub own_part : Bool → Inside → List Inside
own_part true inside = inside ∷ []
own_part false inside = []

-- and what starts it: a fork of a process of another group
abbrev pub begin_if : ℕ → ℕ → ℕ → Record → Option Start → List Inside
begin_if g child event e None = []
begin_if g child event e (Some start) = if child == g then begin_inside g event e start ∷ [] else []

abbrev pub begin_by : ℕ → ℕ → Record → List Inside
begin_by g event (entry.Call pid number result more) = begin_if g result event (entry.Call pid number result more) (child_start (child_called number result more))
begin_by g event other = []

abbrev pub begin_part : ℕ → Option Event → List Inside
begin_part g None = []
begin_part g (Some event) = begin_by g event.number event.entry

-- the group's part of a step
abbrev pub part : Groups → ℕ → Inside → List Inside
part groups g inside = own_part (is_own groups g inside.actor) inside ++ begin_part g inside.event

abbrev pub parts : Groups → ℕ → List Step → List Inside
parts groups g [] = []
parts groups g (s ∷ steps) = part groups g s.moved.inside ++ parts groups g steps

-- the group's part of a run up to a moment
abbrev pub heard_at : List Input → ℕ → ℕ → List Inside
heard_at inputs g moment = parts (group_of (records inputs)) g (within moment (run inputs))

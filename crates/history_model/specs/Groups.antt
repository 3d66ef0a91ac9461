-- Groups of processes that are replayed together, and what each has run.
use Rattle.std.specs.Prelude.{ℕ, ◌+◌, ◌==◌, Bool, false, if◌then◌else◌, List, [], ◌∷◌, Option, Some, None, option_and_then}
use Rattle.arn_base.specs.declared.records.Record.{Record}
use Rattle.arn_base.specs.declared.records.Record.TheVariants as entry
use Rattle.acts_model.specs.Records.{Child, child_called, is_founder, process_of}
use Rattle.history_model.specs.Events.{event_at}
use Rattle.history_model.specs.Moments.{changed}

-- the group of each process, none of a number that no process has
abbrev pub Groups : Type 0
Groups = ℕ → Option ℕ

-- the group of a child: one of its own where it starts a group, else its maker's
abbrev pub child_group : Child → Option ℕ → Option ℕ
child_group child maker = if is_founder child then Some child.number else maker

abbrev pub group_made : ℕ → Option Child → Groups → Groups
group_made pid None groups = groups
group_made pid (Some child) groups = changed groups child.number (child_group child (groups pid))

-- process 1 starts group 1
abbrev pub groups_told : Record → Groups → Groups
groups_told (entry.Boot name give) groups = changed groups 1 (Some 1)
groups_told (entry.Call pid number result more) groups = group_made pid (child_called number result more) groups
groups_told other groups = groups

abbrev pub groups_from : List Record → Groups → Groups
groups_from [] groups = groups
groups_from (e ∷ entries) groups = groups_from entries (groups_told e groups)

-- the group of a process in a history. It is the same at each later moment
abbrev pub group_of : List Record → ℕ → Option ℕ
group_of entries pid = groups_from entries (λ p. None) pid

-- the number that there may be is this one
abbrev pub is_number : ℕ → Option ℕ → Bool
is_number n None = false
is_number n (Some m) = m == n

-- how many instructions a record counts for a group, where processes have these groups
abbrev pub ran_for : ℕ → Groups → Record → ℕ
ran_for g groups (entry.Slice pid ran) = if is_number g (groups pid) then ran else 0
ran_for g groups other = 0

abbrev pub count_from : ℕ → Groups → List Record → ℕ
count_from g groups [] = 0
count_from g groups (e ∷ entries) = ran_for g groups e + count_from g groups entries

-- how many instructions the members of a group have run
abbrev pub count_of : List Record → ℕ → ℕ
count_of entries g = count_from g (group_of entries) entries

-- the group of an event, if its process has one
abbrev pub event_group : List Record → ℕ → Option ℕ
event_group entries n = option_and_then (group_of entries) (option_and_then process_of (event_at entries n))

-- What an index keeps of each process and of each group.
use Rattle.std.specs.Prelude.{ℕ, ◌==◌, Bool, true, false, if◌then◌else◌, List, [], ◌∷◌, ◌++◌, length, slice_get, slice_set, slice_index_or, Option, Some, None, unwrap_or}
use Rattle.history_index.specs.declared.slices.SliceAt.{SliceAt}
use Rattle.history_index.specs.Runs.{Run, no_run, with_slice}

-- Of each process its group, by its number less 1. Of each number from 0 on, whether the process lives, the run of the group that it
-- started, and the event by which it did so, if it did. And the groups.
pub record Families : Type 0 where
  pub groups : List ℕ
  pub lives : List Bool
  pub runs : List Run
  pub foundings : List (Option ℕ)
  pub founders : List ℕ

-- before any process is made: none has the number 0
abbrev pub no_families : Families
no_families = record { groups = []; lives = false ∷ []; runs = no_run ∷ []; foundings = None ∷ []; founders = [] }

-- whether a process lives
abbrev pub lives_in : List Bool → ℕ → Bool
lives_in lives pid = unwrap_or (slice_get lives pid) false

-- a process has ended
abbrev pub with_ended : List Bool → ℕ → List Bool
with_ended lives pid = slice_set lives pid false

-- the run of a group
abbrev pub run_in : List Run → ℕ → Run
run_in runs group = slice_index_or runs group no_run

-- one more slice, of a process of this group
abbrev pub runs_after : List Run → Option ℕ → SliceAt → List Run
runs_after runs None slice = runs
runs_after runs (Some group) slice = slice_set runs group (with_slice (run_in runs group) slice)

-- one more process, made by this event, of this group, which it starts where that has its number
abbrev pub with_process : Families → ℕ → ℕ → Families
with_process f event group =
    record {
      groups = f.groups ++ group ∷ [];
      lives = f.lives ++ true ∷ [];
      runs = f.runs ++ no_run ∷ [];
      foundings = f.foundings ++ (if group == length f.lives then Some event else None) ∷ [];
      founders = if group == length f.lives then f.founders ++ group ∷ [] else f.founders;
    }

-- The lists of the processes that are there and of those that live.
use Rattle.std.specs.Prelude.{◌≡◌, ℕ, ◌&&◌, not, Bool, true, false, List, [], ◌∷◌, Option, Some, None, option_and_then}
use Rattle.parts_model.specs.Processes.{Process, Processes, process, with_process, numbers_from, live, is_live, is_child_of}

-- any process
abbrev pub is_any : Process → Bool
is_any p = true

-- one that has ended, of these children
abbrev pub is_ended_child : ℕ → Process → Bool
is_ended_child parent p = is_child_of parent p && not (is_live p)

-- those that are there, in order of number
abbrev pub present : Processes → List ℕ
present all = numbers_from is_any 1 all

-- the process is there, and the test holds for it
abbrev pub holds : (Process → Bool) → Option Process → Bool
holds test None = false
holds test (Some p) = test p

-- the table after a change of each process of a list of numbers
abbrev pub visited : (Process → Option Process) → Processes → List ℕ → Processes
visited change all [] = all
visited change all (pid ∷ pids) = visited change (with_process all pid (option_and_then change (process all pid))) pids

pub record IsSound (all : Processes) (all_there all_live : List ℕ) : Type 0 where
  pub there_are : all_there ≡ present all
  pub live_are : all_live ≡ live all

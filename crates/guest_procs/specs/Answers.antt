-- What the calls answer.
use Rattle.std.specs.Prelude.{◌≡◌, ◌≢◌, ℕ, List, [], ◌∷◌, Option, Some, None, option_map, option_and_then, IsTrue}
use Rattle.parts_model.specs.declared.tagged.TaggedByte.{TaggedByte}
use Rattle.parts_model.specs.Processes.{Processes, is_full, children, ended_children, status_of}
use Rattle.guest_procs.specs.declared.answers.Ended.{Ended}
use Rattle.guest_procs.specs.declared.answers.ProcError.{ProcError}
use Rattle.guest_procs.specs.declared.answers.ProcError.TheVariants as error

-- a process with its status byte and the event that ended it
abbrev pub ended_as : ℕ → TaggedByte → Ended
ended_as pid status = record { pid = pid; status = status.value; event = status.origin.event }

-- how a process has ended, if it has
abbrev pub ended_by : Processes → ℕ → Option Ended
ended_by all pid = option_map (ended_as pid) (status_of all pid)

abbrev pub first : List ℕ → Option ℕ
first [] = None
first (n ∷ ns) = Some n

-- how the lowest child that has ended did so
abbrev pub lowest_ended : Processes → ℕ → Option Ended
lowest_ended all parent = option_and_then (ended_by all) (first (ended_children all parent))

-- why no process is made: there are as many as there may be, or memory ran out
abbrev pub MakeFails : Processes → ProcError → Type 0
MakeFails all error.TooMany = IsTrue (is_full all)
MakeFails all error.NoMemory = Unit {0}
MakeFails all error.NoChild = ⊥
MakeFails all error.NoProcess = ⊥
MakeFails all error.NotReady = ⊥

-- why no child was waited for: there is none, or none has ended
abbrev pub WaitFails : Processes → ℕ → ProcError → Type 0
WaitFails all parent error.NoChild = children all parent ≡ []
WaitFails all parent error.NotReady = (children all parent ≢ []) × (ended_children all parent ≡ [])
WaitFails all parent error.TooMany = ⊥
WaitFails all parent error.NoProcess = ⊥
WaitFails all parent error.NoMemory = ⊥

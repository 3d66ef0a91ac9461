-- The table of processes: which live, whose child each is, and what each has open.
use Rattle.std.specs.Prelude.{ℕ, zero, suc, ◌+◌, ◌==◌, nat_le, ◌&&◌, ◌||◌, not, Bool, true, false, if◌then◌else◌, List, [], ◌∷◌, ◌++◌, length, map, count_by, replicate, Option, Some, None, is_some, is_none, option_and_then, option_map, slice_set}
use Rattle.parts_model.specs.declared.limits.TheConstants.{MOST_PROCESSES, MOST_DESCRIPTORS}
use Rattle.parts_model.specs.declared.tagged.TaggedByte.{TaggedByte}
use Rattle.parts_model.specs.Numbered.{nth, how_many}

-- a process lives, or it has ended with a status byte, whose origin is the event that ended it
pub data Life : Type 0 where
  Live : Life
  Ended : TaggedByte → Life

-- a process: its parent while that lives, and for each descriptor the number of what it stands for
pub record Process : Type 0 where
  pub life : Life
  pub parent : Option ℕ
  pub descriptors : List (Option ℕ)

-- Processes are numbered from 1 in the order of their making: process n is element n - 1. One that has ended and has no parent, or was
-- waited for, is gone.
abbrev pub Processes : Type 0
Processes = List (Option Process)

-- process n, if it isn't gone
abbrev pub process : Processes → ℕ → Option Process
process all zero = None
process all (suc i) = nth all i

-- the table with another process n
abbrev pub with_process : Processes → ℕ → Option Process → Processes
with_process all zero p = all
with_process all (suc i) p = slice_set all i p

-- it has not ended
abbrev pub is_alive : Life → Bool
is_alive Live = true
is_alive (Ended status) = false

abbrev pub is_live : Process → Bool
is_live p = is_alive p.life

-- the process, if it lives
abbrev pub live_process : Processes → ℕ → Option Process
live_process all pid = option_and_then (λ p. if is_live p then Some p else None) (process all pid)

-- the numbers of those for which the test holds, from a number on
abbrev pub numbers_from : (Process → Bool) → ℕ → Processes → List ℕ
numbers_from test pid [] = []
numbers_from test pid (None ∷ all) = numbers_from test (pid + 1) all
numbers_from test pid (Some p ∷ all) = if test p then pid ∷ numbers_from test (pid + 1) all else numbers_from test (pid + 1) all

-- the live processes, in order of number
abbrev pub live : Processes → List ℕ
live all = numbers_from is_live 1 all

-- there are as many as there may be
abbrev pub is_full : Processes → Bool
is_full all = nat_le MOST_PROCESSES (how_many all)

-- the number of the next process
abbrev pub next_process : Processes → ℕ
next_process all = length all + 1

-- no descriptor is open
abbrev pub none_open : List (Option ℕ)
none_open = replicate MOST_DESCRIPTORS None

-- a process without a parent and open descriptors
abbrev pub booted : Processes → Processes
booted all = all ++ Some (record { life = Live; parent = None; descriptors = none_open }) ∷ []

-- a child has its parent's descriptors
abbrev pub child_of : ℕ → Process → Process
child_of parent p = record { life = Live; parent = Some parent; descriptors = p.descriptors }

abbrev pub forked : Processes → ℕ → Processes
forked all parent = all ++ option_map (child_of parent) (process all parent) ∷ []

-- the number that there may be is this one
abbrev pub is_number : ℕ → Option ℕ → Bool
is_number n None = false
is_number n (Some m) = m == n

-- the process is this one's child
abbrev pub is_child_of : ℕ → Process → Bool
is_child_of parent p = is_number parent p.parent

-- a process stays where it lives, or where its parent may wait for it
abbrev pub if_awaited : Process → Option Process
if_awaited p = if is_live p || is_some p.parent then Some p else None

-- a process whose parent has ended
abbrev pub orphan : ℕ → Process → Option Process
orphan parent p = if is_child_of parent p then if_awaited (record p { parent = None }) else Some p

-- a process that has ended has nothing open
abbrev pub with_end : TaggedByte → Process → Option Process
with_end status p = if_awaited (record p { life = Ended status; descriptors = none_open })

-- the table after a process has ended with this status byte: its children have no parent from then on
abbrev pub ended : Processes → ℕ → TaggedByte → Processes
ended all pid status = map (option_and_then (orphan pid)) (with_process all pid (option_and_then (with_end status) (process all pid)))

-- the children of a process
abbrev pub children : Processes → ℕ → List ℕ
children all parent = numbers_from (is_child_of parent) 1 all

-- those of them that have ended
abbrev pub ended_children : Processes → ℕ → List ℕ
ended_children all parent = numbers_from (λ p. is_child_of parent p && not (is_live p)) 1 all

-- the status byte with which a process has ended
abbrev pub status_in : Life → Option TaggedByte
status_in Live = None
status_in (Ended status) = Some status

abbrev pub status_of : Processes → ℕ → Option TaggedByte
status_of all pid = option_and_then (λ p. status_in p.life) (process all pid)

-- the table after a child was waited for
abbrev pub reaped : Processes → ℕ → Processes
reaped all pid = with_process all pid None

-- what a descriptor of a process stands for, if it is open
abbrev pub descriptor : Process → ℕ → Option ℕ
descriptor p number = nth p.descriptors number

-- how many more descriptors a process may open
abbrev pub free_descriptors : Process → ℕ
free_descriptors p = count_by is_none p.descriptors

-- the place of the first that is none
abbrev pub lowest_free_from : ℕ → List (Option ℕ) → Option ℕ
lowest_free_from n [] = None
lowest_free_from n (None ∷ descriptors) = Some n
lowest_free_from n (Some found ∷ descriptors) = lowest_free_from (n + 1) descriptors

-- the lowest free number
abbrev pub lowest_free : Process → Option ℕ
lowest_free p = lowest_free_from 0 p.descriptors

-- a descriptor that stands for something else, or for nothing any more
abbrev pub with_descriptor : ℕ → Option ℕ → Process → Process
with_descriptor number found p = record p { descriptors = slice_set p.descriptors number found }

-- a change of one process that is there
abbrev pub with_change : Processes → ℕ → (Process → Process) → Processes
with_change all pid change = with_process all pid (option_map change (process all pid))

-- a descriptor is opened under a number
abbrev pub placed_at : Option ℕ → ℕ → Process → Process
placed_at None description p = p
placed_at (Some number) description p = with_descriptor number (Some description) p

-- under the lowest free number
abbrev pub placed : ℕ → Process → Process
placed description p = placed_at (lowest_free p) description p

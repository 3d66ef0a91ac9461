-- The groups in which processes are replayed together.
use Rattle.std.specs.Prelude.{◌≡◌, ℕ, zero, suc, ◌+◌, ◌==◌, if◌then◌else◌, List, [], ◌∷◌, ◌++◌, length, Option, Some, None, slice_get}

-- Processes are numbered from 1 in the order of their making: the group of process n is element n - 1. And the group for which the
-- memory of its next process is kept, where there is one.
pub record Grouping : Type 0 where
  pub groups : List ℕ
  pub reserved : Option ℕ

-- before any process is made
abbrev pub no_groups : Grouping
no_groups = record { groups = []; reserved = None }

-- the group of a process
abbrev pub group_at : List ℕ → ℕ → Option ℕ
group_at groups zero = None
group_at groups (suc i) = slice_get groups i

-- a process started this group: the group has its number
abbrev pub IsStarted : List ℕ → ℕ → Type 0
IsStarted groups group = group_at groups group ≡ Some group

-- the number of the next process
abbrev pub next_number : List ℕ → ℕ
next_number groups = length groups + 1

-- the processes of a group, in order of number, from a number on
abbrev pub members_from : ℕ → ℕ → List ℕ → List ℕ
members_from pid group [] = []
members_from pid group (g ∷ groups) = if g == group then pid ∷ members_from (pid + 1) group groups else members_from (pid + 1) group groups

-- the processes of a group, in the order of their making
abbrev pub members_of : List ℕ → ℕ → List ℕ
members_of groups group = members_from 1 group groups

-- with one more process, which is in this group
abbrev pub with_member : Grouping → ℕ → Grouping
with_member g group = record { groups = g.groups ++ group ∷ []; reserved = None }

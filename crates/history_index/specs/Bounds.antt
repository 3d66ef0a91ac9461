-- Numbers that stay small.
use Rattle.std.specs.Prelude.{◌≡◌, ℕ, ◌+◌, ◌*◌, ◌≤◌, List, length, Bool}

-- a life for each process, and one for the number 0
pub record AreAligned (groups : List ℕ) (lives : List Bool) : Type 0 where
  pub as_many : length lives ≡ length groups + 1

-- each record counts at most as many instructions as 32 bits do, makes at most one process, and tells at most one event
pub record AreBounded (records total : ℕ) (lives : List Bool) (events : ℕ) : Type 0 where
  pub few_instructions : total ≤ records * 4294967295
  pub few_processes : length lives ≤ records + 1
  pub few_events : events ≤ records

-- Pipes as they are kept: under keys that are used again, each with its number.
use Rattle.std.specs.Prelude.{◌≡◌, ℕ, zero, suc, ◌+◌, ◌==◌, ◌<◌, if◌then◌else◌, List, [], ◌∷◌, Option, Some, None, count_by, is_some, slice_index_or}
use Rattle.parts_model.specs.Numbered.{how_many}
use Rattle.parts_model.specs.Pipes.{Pipe, Pipes}
use Rattle.guest_pipes.specs.declared.entries.Entry.{Entry}

-- an entry that is there has this number
abbrev pub HasNumber : ℕ → Option Entry → Type 0
HasNumber n None = ⊥
HasNumber n (Some e) = e.number ≡ n

-- the pipe of a number, if it is there
abbrev pub numbered : List (Option Entry) → ℕ → Option Pipe
numbered [] n = None
numbered (None ∷ slots) n = numbered slots n
numbered (Some e ∷ slots) n = if e.number == n then Some e.pipe else numbered slots n

-- the pipes of so many numbers, from this one on
abbrev pub listed_from : List (Option Entry) → ℕ → ℕ → Pipes
listed_from slots n zero = []
listed_from slots n (suc count) = numbered slots n ∷ listed_from slots (n + 1) count

-- the pipes in order of number, of which so many were made
abbrev pub listed : List (Option Entry) → ℕ → Pipes
listed slots made = listed_from slots 0 made

-- Each number was given, and none stands under two keys. So there are as many pipes as entries.
pub record IsSound (slots : List (Option Entry)) (made : ℕ) : Type 0 where
  pub given : (key n : ℕ) → HasNumber n (slice_index_or slots key None) → n < made
  pub once : (key other n : ℕ) → HasNumber n (slice_index_or slots key None) → HasNumber n (slice_index_or slots other None) → key ≡ other
  pub counted : count_by is_some slots ≡ how_many (listed slots made)

-- Groups of a query forward, as they are found.
use Rattle.std.specs.Prelude.{◌↔◌, ℕ, List, Contains}

-- the same numbers, in whatever order
abbrev pub HaveSame : List ℕ → List ℕ → Type 0
HaveSame xs ys = (n : ℕ) → Contains xs n ↔ Contains ys n

-- Which numbers are reached from others.
use Rattle.std.specs.Prelude.{ℕ, ◌<◌, ◌↔◌, List, [], ◌∷◌, All, Contains}
use Rattle.exchange_graph.specs.Rows.{row_of}

-- the least set that holds these numbers, and with each number those in its row
pub data Reach (rows : List (List ℕ)) (from : List ℕ) : ℕ → Type 0 where
  Given : (n : ℕ) → Contains from n → Reach rows from n
  Followed : (n before : ℕ) → Reach rows from before → Contains (row_of rows before) n → Reach rows from n

-- each number is below all behind it
abbrev pub Rises : List ℕ → Type 0
Rises [] = Unit {0}
Rises (n ∷ numbers) = All (λ m. n < m) numbers × Rises numbers

-- exactly the numbers of a set, rising, so each once
pub record Lists (numbers : List ℕ) (Set : ℕ → Type 0) : Type 0 where
  pub rises : Rises numbers
  pub members : (n : ℕ) → Contains numbers n ↔ Set n

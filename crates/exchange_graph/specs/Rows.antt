-- For each number a row of numbers.
use Rattle.std.specs.Prelude.{ℕ, ◌==◌, ◌<◌, ◌≤◌, ◌^◌, if◌then◌else◌, List, [], ◌∷◌, ◌++◌, length, slice_index_or, All}

-- the row of a number, which is empty where there is none
abbrev pub row_of : List (List ℕ) → ℕ → List ℕ
row_of rows n = slice_index_or rows n []

-- the row of a number once `to` stands behind the row of `from`
abbrev pub row_with : List (List ℕ) → ℕ → ℕ → ℕ → List ℕ
row_with rows from to n = if from == n then row_of rows n ++ to ∷ [] else row_of rows n

-- 32 bits count the rows, and each number in a row has a row
pub record IsClosed (rows : List (List ℕ)) : Type 0 where
  pub few : length rows ≤ 2 ^ 32
  pub inside : (n : ℕ) → All (λ m. m < length rows) (row_of rows n)

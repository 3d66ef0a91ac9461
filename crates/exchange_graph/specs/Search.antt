-- Which numbers a search has found, and which of them it still has to follow.
use Rattle.std.specs.Prelude.{◌≡◌, ◌⊎◌, ℕ, ◌+◌, Bool, true, false, if◌then◌else◌, List, [], ◌∷◌, ◌++◌, slice_index_or, slice_set, Contains}
use Rattle.exchange_graph.specs.Reach.{Reach}
use Rattle.exchange_graph.specs.Rows.{row_of}

pub record Found : Type 0 where
  pub marks : List Bool
  pub waiting : List ℕ

-- a number is found
abbrev pub is_marked : List Bool → ℕ → Bool
is_marked marks n = slice_index_or marks n false

-- one more, which waits to be followed if it is new
abbrev pub with_mark : Found → ℕ → Found
with_mark f n = if is_marked f.marks n then f else record { marks = slice_set f.marks n true; waiting = f.waiting ++ n ∷ [] }

-- and some
abbrev pub with_marks : Found → List ℕ → Found
with_marks f [] = f
with_marks f (n ∷ numbers) = with_marks (with_mark f n) numbers

-- the numbers that are marked, where the marks begin with that of this one
abbrev pub marked_from : ℕ → List Bool → List ℕ
marked_from n [] = []
marked_from n (true ∷ marks) = n ∷ marked_from (n + 1) marks
marked_from n (false ∷ marks) = marked_from (n + 1) marks

-- how many aren't
abbrev pub unmarked : List Bool → ℕ
unmarked [] = 0
unmarked (true ∷ marks) = unmarked marks
unmarked (false ∷ marks) = unmarked marks + 1

-- what is found is reached, and each row of what is found is found, or waits to be followed
pub record IsUnderWay (rows : List (List ℕ)) (from : List ℕ) (f : Found) : Type 0 where
  pub given : (n : ℕ) → Contains from n → is_marked f.marks n ≡ true
  pub sound : (n : ℕ) → is_marked f.marks n ≡ true → Reach rows from n
  pub waiting : (n : ℕ) → Contains f.waiting n → is_marked f.marks n ≡ true
  pub followed : (n m : ℕ) → is_marked f.marks n ≡ true → Contains (row_of rows n) m → Contains f.waiting n ⊎ (is_marked f.marks m ≡ true)

-- exactly what is reached is marked
pub record IsFound (rows : List (List ℕ)) (from : List ℕ) (marks : List Bool) : Type 0 where
  pub sound : (n : ℕ) → is_marked marks n ≡ true → Reach rows from n
  pub complete : (n : ℕ) → Reach rows from n → is_marked marks n ≡ true

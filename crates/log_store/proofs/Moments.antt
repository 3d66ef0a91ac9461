-- How a run of disk calls goes on.
use Rattle.std.proofs.lemmas.Bool.Decides.{nat_tests}
use Rattle.std.proofs.Common.{inl, ℕ, List, arith}
use Rattle.log_store.specs.Stops.{LeavesOnly}

module _ {D : Type 0} (moment : D → ℕ) (left_since : D → ℕ → List ℕ → Type 0) where
  -- before the first call
  pub started : (old : D) (P : List ℕ → Type 0) → ((bytes : List ℕ) → left_since old (moment old) bytes → P bytes)
      → LeavesOnly moment left_since old old P
  started old P here = record { later = omega arith; each = here; before = λ t bytes le left. inl left }

  -- one run and then another
  pub joined : (old mid new : D) (P Q R : List ℕ → Type 0) → LeavesOnly moment left_since old mid P → LeavesOnly moment left_since mid new Q
      → ((bytes : List ℕ) → P bytes → R bytes) → ((bytes : List ℕ) → Q bytes → R bytes) → LeavesOnly moment left_since old new R
  joined old mid new P Q R h1 h2 h3 h4 = grind (arith, nat_tests)

  -- what is left has something weaker, too
  pub weaker : (old new : D) (P Q : List ℕ → Type 0) → LeavesOnly moment left_since old new P
      → ((bytes : List ℕ) → P bytes → Q bytes) → LeavesOnly moment left_since old new Q
  weaker old new P Q h1 h2 = grind (arith, nat_tests)

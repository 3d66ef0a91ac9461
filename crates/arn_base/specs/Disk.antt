-- What the calls of a disk do to its bytes, and what a crash may leave between two syncs.
use Rattle.std.specs.Prelude.{◌≡◌, ◌⊎◌, ℕ, ◌+◌, ◌≤◌, max, min, List, ◌++◌, length, take, drop, Option, Some, None}

-- the bytes with these at an offset, over what was there
abbrev pub overwrite : List ℕ → ℕ → List ℕ → List ℕ
overwrite old at bytes = take at old ++ bytes ++ drop (at + length bytes) old

-- after a write of n bytes that is cut short: any bytes in the range and behind the old end
pub record Torn (at n : ℕ) (old new : List ℕ) : Type 0 where
  pub before : take at new ≡ take at old
  pub after : drop (at + n) new ≡ drop (at + n) old
  pub no_shorter : length old ≤ length new
  pub no_longer : length new ≤ max (length old) (at + n)

-- after a cut to n bytes that is cut short: any bytes behind the place n, and a length between
pub record Cut (n : ℕ) (old new : List ℕ) : Type 0 where
  pub front : take n new ≡ take n old
  pub no_shorter : min n (length old) ≤ length new
  pub no_longer : length new ≤ length old

-- each new outcome of a crash is an old outcome after a step
abbrev pub Follows : (List ℕ → List ℕ → Type 0) → (List ℕ → Type 0) → (List ℕ → Type 0) → Type 0
Follows step old new =
    (bytes : List ℕ) → new bytes → (before : List ℕ) × old before × step before bytes

-- each new outcome of a crash is an old one
abbrev pub NoMore : (List ℕ → Type 0) → (List ℕ → Type 0) → Type 0
NoMore old new = (bytes : List ℕ) → new bytes → old bytes

-- each old outcome of a crash is still one
abbrev pub NoLess : (List ℕ → Type 0) → (List ℕ → Type 0) → Type 0
NoLess old new = (bytes : List ℕ) → old bytes → new bytes

-- a crash leaves this and nothing else
abbrev pub Only : List ℕ → (List ℕ → Type 0) → Type 0
Only image outcomes = (bytes : List ℕ) → outcomes bytes → bytes ≡ image

-- neither image is told, or both are and the step leads from one to the other
abbrev pub BothTell : (List ℕ → List ℕ → Type 0) → Option (List ℕ) → Option (List ℕ) → Type 0
BothTell step None None = Unit {0}
BothTell step (Some old) (Some new) = step old new
BothTell step None (Some new) = ⊥
BothTell step (Some old) None = ⊥

-- a moment to the next: a crash since a time may have left what it might have left before, or what it
-- may leave now
pub record Elapses {D : Type 0} (moment : D → ℕ) (left_since : D → ℕ → List ℕ → Type 0)
    (may_leave : D → List ℕ → Type 0) (old new : D) : Type 0 where
  pub later : moment old ≤ moment new
  pub nothing_else : (time : ℕ) (bytes : List ℕ) → time ≤ moment old → left_since new time bytes →
      left_since old time bytes ⊎ may_leave new bytes
  pub keeps : (time : ℕ) (bytes : List ℕ) → time ≤ moment old → left_since old time bytes →
      left_since new time bytes

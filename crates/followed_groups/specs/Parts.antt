-- Which groups were replayed.
use Rattle.std.specs.Prelude.{◌≡◌, ◌⊎◌, ℕ, ◌+◌, ◌++◌, List, [], ◌∷◌, sum_by}
use Rattle.arn_base.specs.declared.records.Record.{Record}
use Rattle.replayer.specs.Bounds.{ran_before}

-- some of these numbers, in their order
pub data IsPart : List ℕ → List ℕ → Type 0 where
  OfNone : IsPart [] []
  Leaves : (part whole : List ℕ) (n : ℕ) → IsPart part whole → IsPart part (n ∷ whole)
  Takes : (part whole : List ℕ) (n : ℕ) → IsPart part whole → IsPart (n ∷ part) (n ∷ whole)

-- a group was replayed, and is then named behind the others, or nothing was executed
abbrev pub IsReplayed : List Record → ℕ → ℕ → List ℕ → List ℕ → ℕ → ℕ → Type 0
IsReplayed entries until g old new before after =
    ((new ≡ old ++ g ∷ []) × (after ≡ before + ran_before entries g until)) ⊎ ((new ≡ old) × (after ≡ before))

-- how many instructions these groups ran before a moment
abbrev pub ran_in : List Record → ℕ → List ℕ → ℕ
ran_in entries until groups = sum_by (λ g. ran_before entries g until) groups

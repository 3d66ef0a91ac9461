-- The records of a slice.
use Rattle.std.proofs.Common.{◌≡◌, ℕ, zero, suc, List, [], ◌∷◌, refl}
use Rattle.arn_base.specs.declared.records.Record.{Record}
use Rattle.guest_legs.specs.Pieces.{slice_of}

no_cons : (e : Record) (es : List Record) → e ∷ es ≡ [] → ⊥
no_cons e es is = cc

-- there are none, whichever process it is
pub nothing-of : (pid ran : ℕ) (entries : List Record) → slice_of 0 ran entries ≡ [] → slice_of pid ran entries ≡ []
nothing-of pid zero [] none = refl
nothing-of pid zero (e ∷ entries) none = absurd (no_cons _ _ none)
nothing-of pid (suc n) entries none = absurd (no_cons _ _ none)

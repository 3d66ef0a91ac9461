-- What a session is handed.
use Rattle.std.specs.Prelude.{ℕ, Bool}
use Rattle.session_model.specs.Questions.{Told}

-- how questions are answered, and which devices are there as it begins
pub record Given : Type 0 where
  pub told : Told
  pub filled : ℕ → Bool

-- these as one value
abbrev pub given : Told → (ℕ → Bool) → Given
given told filled = record { told = told; filled = filled }

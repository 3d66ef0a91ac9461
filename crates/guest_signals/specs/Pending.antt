-- Pending signals as the digits of a number.
use Rattle.std.specs.Prelude.{ℕ, zero, suc, ◌+◌, ◌==◌, Bool, List, [], ◌∷◌}
use Rattle.std.specs.Int.{bit_at}
use Rattle.parts_model.specs.declared.limits.TheConstants.{GREATEST_SIGNAL}

-- so many binary digits of a number, from a place on
abbrev pub digits_from : ℕ → ℕ → ℕ → List Bool
digits_from mask place zero = []
digits_from mask place (suc n) = (bit_at mask place == 1) ∷ digits_from mask (place + 1) n

-- the digit at place 0 says whether signal 1 is pending, and so on
unfoldable pub pending_in : ℕ → List Bool
pending_in mask = digits_from mask 0 GREATEST_SIGNAL

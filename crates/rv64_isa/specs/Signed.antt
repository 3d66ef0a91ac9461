-- Signed numbers as bits, in two's complement.
use Rattle.std.specs.Prelude.{ℕ, suc, ◌-◌, ◌^◌, nat_lt, if◌then◌else◌, ℤ, pos, negsuc, neg_ℤ, ◌-ℤ◌, ◌≤ℤ◌}

-- the signed number that the given number of bits spell
abbrev pub signed_of : ℕ → ℕ → ℤ
signed_of width n = if nat_lt n (2 ^ (width - 1)) then pos n else pos n -ℤ pos (2 ^ width)

-- the bits of a signed number
abbrev pub unsigned_of : ℕ → ℤ → ℕ
unsigned_of width (pos n) = n
unsigned_of width (negsuc n) = 2 ^ width - suc n

-- how far a number is from 0
abbrev pub magnitude_of : ℤ → ℕ
magnitude_of (pos n) = n
magnitude_of (negsuc n) = suc n

-- a number of a range, both ends included
pub record IsBetween (low high z : ℤ) : Type 0 where
  pub at_least : low ≤ℤ z
  pub at_most : z ≤ℤ high

-- the signed numbers of this width
abbrev pub FitsIn : ℕ → ℤ → Type 0
FitsIn width z = IsBetween (neg_ℤ (pos (2 ^ (width - 1)))) (pos (2 ^ (width - 1) - 1)) z

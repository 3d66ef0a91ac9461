-- The bits of a word, numbered from 0, the lowest.
use Rattle.std.specs.Prelude.{ℕ, ◌+◌, ◌-◌, ◌/◌, ◌%◌, ◌^◌}

-- the bits from high down to low, as a number
abbrev pub bits_of : ℕ → ℕ → ℕ → ℕ
bits_of word high low = word / 2 ^ low % 2 ^ (high - low + 1)

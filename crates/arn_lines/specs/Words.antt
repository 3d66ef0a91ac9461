-- The words of a line: names, numbers and bytes.
use Rattle.std.specs.Prelude.{◌≡◌, ℕ, ◌+◌, ◌*◌, ◌^◌, ◌<◌, ◌≤◌, ◌⊎◌, nat_le, ◌&&◌, Bool, List, [], ◌∷◌, ◌++◌, length, codes, decimal, slice_index, IsTrue}
use Rattle.std.specs.List.{list_all}

-- words stand behind one another, with one space between
abbrev pub space : List ℕ
space = codes " "

-- the two spellings of the hex digits
abbrev pub lower_digits : List ℕ
lower_digits = codes "0123456789abcdef"

abbrev pub upper_digits : List ℕ
upper_digits = codes "0123456789ABCDEF"

-- the byte is a hex digit of this value
abbrev pub IsHexDigit : ℕ → ℕ → Type 0
IsHexDigit c value = (value < 16) × ((c ≡ slice_index lower_digits value) ⊎ (c ≡ slice_index upper_digits value))

-- two hex digits spell a byte
pub record IsHexByte (high low byte : ℕ) : Type 0 where
  pub high_value : ℕ
  pub low_value : ℕ
  pub is_high : IsHexDigit high high_value
  pub is_low : IsHexDigit low low_value
  pub is_byte : byte ≡ 16 * high_value + low_value

-- hex text, two digits a byte
abbrev pub IsHex : List ℕ → List ℕ → Type 0
IsHex [] [] = Unit {0}
IsHex (high ∷ low ∷ text) (byte ∷ bytes) = IsHexByte high low byte × IsHex text bytes
IsHex _ _ = ⊥

-- bytes: hex text that isn't empty, or `-` for none
abbrev pub IsBytes : List ℕ → List ℕ → Type 0
IsBytes text bytes = ((0 < length bytes) × IsHex text bytes) ⊎ ((text ≡ codes "-") × (bytes ≡ []))

-- a byte of a name: printable, and no blank
abbrev pub is_name_byte : ℕ → Bool
is_name_byte c = nat_le 33 c && nat_le c 126

-- a name: 1 to 64 such bytes
abbrev pub is_name : List ℕ → Bool
is_name text = nat_le 1 (length text) && (nat_le (length text) 64 && list_all is_name_byte text)

abbrev pub IsName : List ℕ → Type 0
IsName text = IsTrue (is_name text)

-- hex digits behind a number spell a longer number
abbrev pub IsHexNumberFrom : ℕ → List ℕ → ℕ → Type 0
IsHexNumberFrom before [] n = n ≡ before
IsHexNumberFrom before (c ∷ text) n = (value : ℕ) × IsHexDigit c value × IsHexNumberFrom (16 * before + value) text n

-- `0x` and 1 to 16 hex digits
pub record IsHexNumber (text : List ℕ) (n : ℕ) : Type 0 where
  pub digits : List ℕ
  pub is_text : text ≡ codes "0x" ++ digits
  pub at_least : 1 ≤ length digits
  pub at_most : length digits ≤ 16
  pub value : IsHexNumberFrom 0 digits n

-- a number below 2^64, in decimal without leading zeros or in hex
abbrev pub IsNumber : List ℕ → ℕ → Type 0
IsNumber text n = (n < 2 ^ 64) × ((text ≡ decimal n) ⊎ IsHexNumber text n)

-- Numbers in a program's text.
use Rattle.std.specs.Prelude.{ℕ, ◌+◌, ◌-◌, ◌*◌, ◌==◌, ◌&&◌, nat_le, nat_lt, if◌then◌else◌, List, [], ◌∷◌, take, drop, Option, Some, None, option_map, option_and_then, codes, bytes_eq, ℤ, pos, neg_ℤ}
use Rattle.asm_text.specs.Characters.{is_digit}

-- the value of a digit of a base up to 16: both cases of the letters are digits
abbrev pub digit_value : ℕ → Option ℕ
digit_value c =
    if is_digit c then Some (c - 48)
    else if nat_le 97 c && nat_le c 102 then Some (c - 87)
    else if nat_le 65 c && nat_le c 70 then Some (c - 55)
    else None

-- a digit of this base
abbrev pub digit_of : ℕ → ℕ → Option ℕ
digit_of base c = option_and_then (λ value. if nat_lt value base then Some value else None) (digit_value c)

-- digits behind a number make a longer one
abbrev pub digits_from : ℕ → ℕ → List ℕ → Option ℕ
digits_from base value [] = Some value
digits_from base value (c ∷ text) = option_and_then (λ digit. digits_from base (base * value + digit) text) (digit_of base c)

-- at least one digit
abbrev pub digits : ℕ → List ℕ → Option ℕ
digits base [] = None
digits base (c ∷ text) = digits_from base 0 (c ∷ text)

-- a decimal number has no leading zero
abbrev pub decimal_of : List ℕ → Option ℕ
decimal_of [] = None
decimal_of (c ∷ []) = digits 10 (c ∷ [])
decimal_of (c ∷ d ∷ text) = if c == 48 then None else digits 10 (c ∷ d ∷ text)

-- a number without a sign: decimal, or `0x` and hex digits
abbrev pub unsigned_of : List ℕ → Option ℕ
unsigned_of text = if bytes_eq (take 2 text) (codes "0x") then digits 16 (drop 2 text) else decimal_of text

-- a number: a decimal one may stand behind `-`
abbrev pub number_of : List ℕ → Option ℤ
number_of [] = None
number_of (c ∷ text) =
    if c == 45 then option_map (λ n. neg_ℤ (pos n)) (decimal_of text) else option_map pos (unsigned_of (c ∷ text))

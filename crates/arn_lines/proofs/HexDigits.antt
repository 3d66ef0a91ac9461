-- Hex digits, read one after another.
use Rattle.std.proofs.Common.{◌≡◌, ℕ, ◌+◌, ◌*◌, ◌^◌, ◌<◌, ◌≤◌, List, length, get_or, drop, ◌++◌, codes, Some, inl, inr, arith, pow-add}
use Rattle.std.proofs.Math.Pow.{pow_mono}
use Rattle.std.proofs.lemmas.List.{drop_more}
use Rattle.hex.proofs.HexLemmas.{IsDigits-lower_digits, IsDigits-upper_digits}
use Rattle.hex.specs.Hex.{hex_digit_value}
use Rattle.arn_lines.specs.Words.{IsHexDigit, IsHexNumber, IsHexNumberFrom}

pub hex_digit_value-IsHexDigit : (c v : ℕ) → IsHexDigit c v → hex_digit_value c ≡ Some v
hex_digit_value-IsHexDigit c v h =
    elim h.1 [
      | inl lower ↦ rw lower (IsDigits-lower_digits v h.0)
      | inr upper ↦ rw upper (IsDigits-upper_digits v h.0)
    ]

-- the digits stand above the space
pub IsHexDigit-range : (c v : ℕ) → IsHexDigit c v → 48 ≤ c
IsHexDigit-range c v h =
    let value = hex_digit_value-IsHexDigit c v h in
    grind (arith)

-- a digit has one value
pub IsHexDigit-same : (c v w : ℕ) → IsHexDigit c v → IsHexDigit c w → v ≡ w
IsHexDigit-same c v w a b =
    let e = hex_digit_value-IsHexDigit c v a in
    let f = hex_digit_value-IsHexDigit c w b in
    cc

-- the first i digits spell the number, and the rest of them go on from there
pub record ReadSoFar (digits : List ℕ) (i number : ℕ) : Type 0 where
  pub small : number < 2 ^ (4 * i)
  pub goes_on : (n : ℕ) → IsHexNumberFrom number (drop i digits) n → IsHexNumberFrom 0 digits n
  pub went_on : (n : ℕ) → IsHexNumberFrom 0 digits n → IsHexNumberFrom number (drop i digits) n

pub ReadSoFar-more : (digits : List ℕ) (i number v : ℕ) → i < length digits → IsHexDigit (get_or digits i 0) v
    → ReadSoFar digits i number → ReadSoFar digits (i + 1) (16 * number + v)
ReadSoFar-more digits i number v lt digit r =
    let more = drop_more digits i 0 lt in
    let four_more : 4 * (i + 1) ≡ 4 * i + 4 = omega arith in
    let power : 2 ^ (4 * (i + 1)) ≡ 2 ^ (4 * i) * 16 = rw four_more (pow-add 2 (4 * i) 4) in
    record {
      small = omega (arith, power, r.small, digit.0);
      goes_on = λ n h. r.goes_on n (rw more (v, digit, h));
      went_on = λ n h.
          let rest = rw more at r.went_on n h in
          rw (IsHexDigit-same (get_or digits i 0) rest.0 v rest.1 digit) at rest.2;
    }

-- the digits behind `0x`
pub IsHexNumber-digits : (digits : List ℕ) (n : ℕ) → IsHexNumber (codes "0x" ++ digits) n
    → (1 ≤ length digits) × (length digits ≤ 16) × IsHexNumberFrom 0 digits n
IsHexNumber-digits digits n h =
    let same : h.digits ≡ digits = cc h.is_text in
    (rw same at h.at_least, rw same at h.at_most, rw same at h.value)

-- a byte that is no digit ends the number
pub ReadSoFar-stops : (digits : List ℕ) (i number : ℕ) → i < length digits
    → ((v : ℕ) → ¬ IsHexDigit (get_or digits i 0) v) → ReadSoFar digits i number → (n : ℕ) → ¬ IsHexNumberFrom 0 digits n
ReadSoFar-stops digits i number lt none r n h =
    let rest = rw (drop_more digits i 0 lt) at r.went_on n h in
    none rest.0 rest.1

-- fewer than sixteen digits leave room for one more
pub ReadSoFar-room : (digits : List ℕ) (i number : ℕ) → i < 16 → ReadSoFar digits i number → number < 2 ^ 60
ReadSoFar-room digits i number lt r =
    let small : 4 * i ≤ 60 = omega arith in
    omega (arith, r.small, pow_mono {i = 4 * i} {j = 60} small)

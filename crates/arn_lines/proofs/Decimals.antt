-- Decimal text, without leading zeros.
use Rattle.std.proofs.Common.{◌≡◌, ◌≢◌, ℕ, ◌^◌, ◌<◌, List, ◌++◌, length, get_or, codes, decimal, Result, Ok, Err, inl, inr, refl, sym, arith, IfSome, IfNone, IsUtf8}
use Rattle.std.specs.Int.{IsInRange}
use Rattle.std.specs.Result.{result_ok}
use Rattle.std.specs.Str.Parse.{AllDigits, digits_value, ParsesUnsigned}
use Rattle.std.proofs.lemmas.Bool.{cases_lt}
use Rattle.std.proofs.lemmas.Fmt.{IsAscii-decimal, decimal_digit, decimal-digits_value, decimal_nonempty, digits_decimal, digits_value-decimal, first_decimal}
use Rattle.std.proofs.lemmas.Str.{IsUtf8-from_ascii}
use Rattle.std.proofs.lemmas.Str.Parse.{IsNumeralModel, digit_at, not_in_digits, numerals_by_value, parse_plain, tells_digits}
use Rattle.arn_lines.specs.Pieces.{IsUnpadded}

model : IsNumeralModel (AllDigits 10) (digits_value 10)
model = numerals_by_value (AllDigits 10) tells_digits

pub decimal_digits : (n : ℕ) → n < 2 ^ 64 → AllDigits 10 (decimal n)
decimal_digits n small = digits_decimal model n small

-- no byte but a digit stands in decimal text
pub not_in_decimal : (n c i : ℕ) → n < 2 ^ 64 → i < length (decimal n) → ¬ IsInRange 48 57 c → get_or (decimal n) i 0 ≢ c
not_in_decimal n c i small lt other = not_in_digits model (decimal n) c (decimal_digits n small) other i lt

pub IsUnpadded-decimal : (n : ℕ) → n < 2 ^ 64 → IsUnpadded (decimal n)
IsUnpadded-decimal n small =
    elim (cases_lt 0 n) [
      | inl above ↦
          let first = first_decimal n above small in
          let digit = digit_at (decimal n) 0 (decimal_digits n small) (decimal_nonempty n small) in
          inr (omega arith, digit.1)
      | inr zero ↦
          let e : n ≡ 0 = omega arith in
          inl (rw e (decimal_digit 0 (omega arith)))
    ]

pub IsUtf8-decimal : (n : ℕ) → n < 2 ^ 64 → IsUtf8 (decimal n)
IsUtf8-decimal n small = IsUtf8-from_ascii (decimal n) (IsAscii-decimal n small)

-- text that isn't UTF-8 is no number
pub unreadable_decimal : (text : List ℕ) → ¬ IsUtf8 text → (n : ℕ) → n < 2 ^ 64 → text ≢ decimal n
unreadable_decimal text not_text n small e = not_text (rw e (IsUtf8-decimal n small))

-- text with a hex number's start is no decimal text
pub hex_is_no_decimal : (digits : List ℕ) (n : ℕ) → n < 2 ^ 64 → codes "0x" ++ digits ≢ decimal n
hex_is_no_decimal digits n small e =
    let long : 1 < length (decimal n) = rw (← e) (omega arith) in
    let x : get_or (decimal n) 1 0 ≡ 120 = rw (← e) refl in
    not_in_decimal n 120 1 small long (λ digit. absurd (omega (arith, digit.1))) x

no_plus : (text : List ℕ) → IsUnpadded text → get_or text 0 0 ≢ 43
no_plus text unpadded e =
    elim unpadded [
      | inl zero ↦
          let first : get_or text 0 0 ≡ 48 = rw zero refl in
          absurd (omega arith)
      | inr digit ↦ absurd (omega (arith, digit.0))
    ]

one_zero : (text : List ℕ) → IsUnpadded text → get_or text 0 0 ≡ 48 → length text ≡ 1
one_zero text unpadded e =
    elim unpadded [
      | inl zero ↦ rw zero refl
      | inr digit ↦ absurd (omega (arith, digit.0))
    ]

-- what `parse` reads of text without leading zeros and sign
pub parsed_decimal : {E : Type 0} (text : List ℕ) (r : Result ℕ E) → IsUnpadded text → ParsesUnsigned 64 10 text r
    → IfSome (result_ok r) (λ n. text ≡ decimal n)
parsed_decimal {E} text (Ok n) unpadded parsed =
    let read = parse_plain model {E = E} 64 text (Ok n) parsed (no_plus text unpadded) in
    let same = decimal-digits_value model text read.0.0 read.0.1 (one_zero text unpadded) read.0.2 in
    rw read.1 (sym same)
parsed_decimal text (Err e) unpadded parsed = tt

pub unparsed_decimal : {E : Type 0} (text : List ℕ) (r : Result ℕ E) → IsUnpadded text → ParsesUnsigned 64 10 text r
    → IfNone (result_ok r) ((n : ℕ) → n < 2 ^ 64 → text ≢ decimal n)
unparsed_decimal {E} text (Ok n) unpadded parsed = tt
unparsed_decimal {E} text (Err e) unpadded parsed =
    λ n small same.
    let failed = parse_plain model {E = E} 64 text (Err e) parsed (no_plus text unpadded) in
    failed
    (rw same (decimal_digits n small, decimal_nonempty n small, rw (digits_value-decimal model n small) small))

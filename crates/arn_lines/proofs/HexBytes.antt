-- Pairs of hex digits, and the bytes that they spell.
use Rattle.std.proofs.Common.{◌≡◌, ℕ, ◌≤◌, ◌+◌, ◌*◌, ◌-◌, ◌%◌, true, List, [], ◌∷◌, length, refl, sym, ◌∙◌, ap, subst, arith, rules, inl, inr, Result, Ok}
use Rattle.std.proofs.lemmas.Bool.{cases_lt}
use Rattle.std.proofs.lemmas.Bool.Decides.{nat_tests}
use Rattle.std.specs.List.{AllPass}
use Rattle.std.specs.Result.{result_unwrap_or}
use Rattle.std.proofs.lemmas.List.Elements.{All-head, All-tail}
use Rattle.hex.specs.Hex.{decode_of, decode_pairs, is_hex_digit}
use Rattle.hex.specs.declared.error.FromHexError.{FromHexError}
use Rattle.hex.proofs.HexLemmas.{decode_of-even, decode_of-ok}
use Rattle.arn_lines.specs.Words.{IsHex, IsHexDigit}
use Rattle.arn_lines.proofs.HexDigits.{hex_digit_value-IsHexDigit}

-- the digits stand in three ranges
upper_digit : (c : ℕ) → 65 ≤ c → c ≤ 70 → IsHexDigit c (c - 55)
upper_digit c low high = search rules

lower_digit : (c : ℕ) → 97 ≤ c → c ≤ 102 → IsHexDigit c (c - 87)
lower_digit c low high = search rules

decimal_digit : (c : ℕ) → 48 ≤ c → c ≤ 57 → IsHexDigit c (c - 48)
decimal_digit c low high = search rules

digit_value : (c : ℕ) → is_hex_digit c ≡ true → (v : ℕ) × IsHexDigit c v
digit_value c h =
    elim (cases_lt c 48) [
      | inl low ↦ let no : ⊥ = grind (arith, nat_tests) in absurd no
      | inr low ↦
          elim (cases_lt c 58) [
            | inl high ↦ (c - 48, decimal_digit c low (omega arith))
            | inr high ↦
                elim (cases_lt c 65) [
                  | inl low ↦ let no : ⊥ = grind (arith, nat_tests) in absurd no
                  | inr low ↦
                      elim (cases_lt c 71) [
                        | inl high ↦ (c - 55, upper_digit c low (omega arith))
                        | inr high ↦
                            elim (cases_lt c 97) [
                              | inl low ↦ let no : ⊥ = grind (arith, nat_tests) in absurd no
                              | inr low ↦
                                  elim (cases_lt c 103) [
                                    | inl high ↦ (c - 87, lower_digit c low (omega arith))
                                    | inr high ↦ let no : ⊥ = grind (arith, nat_tests) in absurd no
                                  ]
                            ]
                      ]
                ]
          ]
    ]

-- the byte is a digit of some value
abbrev IsDigit : ℕ → Type 0
IsDigit c = is_hex_digit c ≡ true

-- an even number of digits spells bytes
spelled : (text : List ℕ) → length text % 2 ≡ 0 → AllPass is_hex_digit text → (bytes : List ℕ) × IsHex text bytes
spelled [] even digits = ([], tt)
spelled (high ∷ []) even digits = absurd (omega arith)
spelled (high ∷ low ∷ text) even digits =
    let others = All-tail IsDigit high (low ∷ text) digits in
    let first = digit_value high (All-head IsDigit high (low ∷ text) digits) in
    let second = digit_value low (All-head IsDigit low text others) in
    let rest = spelled text (omega arith) (All-tail IsDigit low text others) in
    ((16 * first.0 + second.0) ∷ rest.0, (record { high_value = first.0; low_value = second.0; is_high = first.1; is_low = second.1; is_byte = refl }, rest.1))

-- the text spells bytes where it decodes to them
pub decode_pairs-IsHex : (i : ℕ) (text bytes : List ℕ) → IsHex text bytes → decode_pairs i text ≡ Ok bytes
unfolding decode_pairs
decode_pairs-IsHex i [] [] h = refl
decode_pairs-IsHex i (high ∷ low ∷ text) (b ∷ bytes) h =
    let pair = h.0 in
    let first = hex_digit_value-IsHexDigit high pair.high_value pair.is_high in
    let byte : pair.high_value * 16 + pair.low_value ≡ b = omega (arith, pair.is_byte) in
    rw (first, hex_digit_value-IsHexDigit low pair.low_value pair.is_low, decode_pairs-IsHex (i + 2) text bytes h.1) (ap (λ (n : ℕ). Ok (n ∷ bytes)) byte)
decode_pairs-IsHex i _ _ h = absurd h

even_length : (text bytes : List ℕ) → IsHex text bytes → length text % 2 ≡ 0
even_length [] [] h = refl
even_length (high ∷ low ∷ text) (b ∷ bytes) h = omega (arith, even_length text bytes h.1)
even_length _ _ h = absurd h

pub decode_of-IsHex : (text bytes : List ℕ) → IsHex text bytes → decode_of text ≡ Ok bytes
decode_of-IsHex text bytes h = decode_of-even text (even_length text bytes h) ∙ decode_pairs-IsHex 0 text bytes h

-- hex text spells one list of bytes
pub IsHex-same : (text a b : List ℕ) → IsHex text a → IsHex text b → a ≡ b
IsHex-same text a b ha hb =
    ap (λ (r : Result (List ℕ) FromHexError). result_unwrap_or r []) (sym (decode_of-IsHex text a ha) ∙ decode_of-IsHex text b hb)

pub IsHex-decode_of : (text bytes : List ℕ) → decode_of text ≡ Ok bytes → IsHex text bytes
IsHex-decode_of text bytes e =
    let digits = decode_of-ok text bytes e in
    let found = spelled text digits.0 digits.1 in
    subst (IsHex text) (ap (λ (r : Result (List ℕ) FromHexError). result_unwrap_or r []) (sym (decode_of-IsHex text found.0 found.1) ∙ e)) found.1

-- A text is one number.
use Rattle.std.proofs.Common.{◌≡◌, ℕ, ◌+◌, ◌*◌, ◌^◌, ◌<◌, List, [], ◌∷◌, decimal, inl, inr, sym, ◌∙◌}
use Rattle.std.proofs.lemmas.Fmt.{decimal_injective}
use Rattle.arn_lines.specs.Words.{IsHexNumber, IsHexNumberFrom, IsNumber}
use Rattle.arn_lines.proofs.Decimals.{hex_is_no_decimal}
use Rattle.arn_lines.proofs.HexDigits.{IsHexDigit-same}

IsHexNumberFrom-same : (digits : List ℕ) (before m n : ℕ) → IsHexNumberFrom before digits m → IsHexNumberFrom before digits n → m ≡ n
IsHexNumberFrom-same [] before m n a b = a ∙ sym b
IsHexNumberFrom-same (c ∷ digits) before m n a b =
    IsHexNumberFrom-same digits (16 * before + b.0) m n (rw (IsHexDigit-same c a.0 b.0 a.1 b.1) at a.2) b.2

IsHexNumber-same : (text : List ℕ) (m n : ℕ) → IsHexNumber text m → IsHexNumber text n → m ≡ n
IsHexNumber-same text m n a b =
    let same : a.digits ≡ b.digits = cc (sym a.is_text ∙ b.is_text) in
    IsHexNumberFrom-same b.digits 0 m n (rw same at a.value) b.value

-- decimal text doesn't begin like a hex number
mixed : (text : List ℕ) (m n : ℕ) → m < 2 ^ 64 → text ≡ decimal m → ¬ IsHexNumber text n
mixed text m n small a b = hex_is_no_decimal b.digits m small (sym b.is_text ∙ a)

pub IsNumber-same : (text : List ℕ) (m n : ℕ) → IsNumber text m → IsNumber text n → m ≡ n
IsNumber-same text m n a b =
    elim a.1 [
      | inl decimal ↦
          elim b.1 [
            | inl too ↦ decimal_injective m n a.0 b.0 (sym decimal ∙ too)
            | inr hex ↦ absurd (mixed text m n a.0 decimal hex)
          ]
      | inr hex ↦
          elim b.1 [
            | inl decimal ↦ absurd (mixed text n m b.0 decimal hex)
            | inr too ↦ IsHexNumber-same text m n hex too
          ]
    ]

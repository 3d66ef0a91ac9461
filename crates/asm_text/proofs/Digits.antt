-- Numbers, digit by digit.
use Rattle.std.proofs.Common.{◌≡◌, ℕ, ◌+◌, ◌*◌, ◌<◌, ◌≤◌, min, List, length, drop, get_or, Some, inl, inr, refl, ◌∙◌, arith, mul-le-mul_right}
use Rattle.std.proofs.lemmas.Bool.{cases_lt}
use Rattle.std.proofs.lemmas.List.{at_drop_more}
use Rattle.asm_text.specs.Numbers.{digit_of, digits_from}

-- one digit more
pub digits_from-more : (base n digit i : ℕ) (text : List ℕ) → i < length text → digit_of base (get_or text i 0) ≡ Some digit
    → digits_from base n (drop i text) ≡ digits_from base (base * n + digit) (drop (i + 1) text)
digits_from-more base n digit i text lt e = at_drop_more (digits_from base n) text i 0 lt ∙ rw e refl

-- a number is kept with one digit more, up to a greatest number
pub kept-more : (most base n digit kept product sum : ℕ) → 1 ≤ base → kept ≡ min n most → product ≡ min (base * kept) most
    → sum ≡ min (product + digit) most → sum ≡ min (base * n + digit) most
kept-more most base n digit kept product sum positive is_kept is_product is_sum =
    elim (cases_lt most n) [
      | inl above ↦
          let all : kept ≡ most = omega arith in
          let longer : n ≤ base * n = omega (arith, mul-le-mul_right n positive) in
          let grown : most ≤ base * most = omega (arith, mul-le-mul_right most positive) in
          let same : product ≡ most = rw (is_product, all) (omega arith) in
          omega arith
      | inr within ↦
          let all : kept ≡ n = omega arith in
          let same : product ≡ min (base * n) most = rw (is_product, all) refl in
          omega arith
    ]

-- Immediates: signed numbers of a width, and the bits that spell them.
use Rattle.std.proofs.Common.{◌≡◌, ℕ, suc, ◌-◌, ◌*◌, ◌%◌, ◌^◌, ◌<◌, ◌≤◌, ◌⊎◌, inl, inr, ℤ, pos, negsuc, ap, subst, sym, ◌∙◌, arith, ◌-ℤ◌, pow_pos}
use Rattle.std.proofs.lemmas.Int.{ints}
use Rattle.std.proofs.lemmas.Bool.Decides.{nat_tests}
use Rattle.std.proofs.Math.Nat.{pow-suc}
use Rattle.rv64_isa.specs.Signed.{signed_of, unsigned_of, magnitude_of, FitsIn}

-- a power of two is twice the one below
double : (width : ℕ) → 0 < width → 2 ^ width ≡ 2 ^ (width - 1) * 2
double width some =
    let e : suc (width - 1) ≡ width = omega arith in
    subst (λ (w : ℕ). 2 ^ w ≡ 2 ^ (width - 1) * 2) e (pow-suc 2 (width - 1))

-- what lower bits spell
signed_of_low : (width n : ℕ) → n < 2 ^ (width - 1) → signed_of width n ≡ pos n
signed_of_low width n low = grind (arith, nat_tests)

-- what higher bits spell
pos-ℤ : (n m : ℕ) → n < m → pos n -ℤ pos m ≡ negsuc (m - suc n)
pos-ℤ n m below = omega (arith, ints)

signed_of_high : (width n : ℕ) → 2 ^ (width - 1) ≤ n → n < 2 ^ width
    → signed_of width n ≡ negsuc (2 ^ width - suc n)
signed_of_high width n high below = let e = pos-ℤ n (2 ^ width) below in grind (arith, nat_tests)

-- one of the two
low_or_high : (width n : ℕ) → (n < 2 ^ (width - 1)) ⊎ (2 ^ (width - 1) ≤ n)
low_or_high width n = grind arith

pub unsigned_of-signed_of : (width n : ℕ) → 0 < width → n < 2 ^ width
    → unsigned_of width (signed_of width n) ≡ n
unsigned_of-signed_of width n some below =
    elim (low_or_high width n) [
      | inl low ↦ ap (unsigned_of width) (signed_of_low width n low)
      | inr high ↦
          let back : 2 ^ width - suc (2 ^ width - suc n) ≡ n = omega arith in
          ap (unsigned_of width) (signed_of_high width n high below) ∙ back
    ]

pub FitsIn-signed_of : (width n : ℕ) → 0 < width → n < 2 ^ width → FitsIn width (signed_of width n)
FitsIn-signed_of width n some below =
    elim (low_or_high width n) [
      | inl low ↦
          let fits : FitsIn width (pos n) = record {
            at_least = omega (arith, ints, pow_pos (width - 1));
            at_most = omega (arith, ints);
          } in
          subst (FitsIn width) (sym (signed_of_low width n low)) fits
      | inr high ↦
          let fits : FitsIn width (negsuc (2 ^ width - suc n)) = record {
            at_least = omega (arith, ints, double width some);
            at_most = omega (arith, ints, pow_pos (width - 1));
          } in
          subst (FitsIn width) (sym (signed_of_high width n high below)) fits
    ]

pub signed_of-unsigned_of : (width : ℕ) (z : ℤ) → 0 < width → FitsIn width z
    → signed_of width (unsigned_of width z) ≡ z
signed_of-unsigned_of width (pos n) some fits =
    let low : n < 2 ^ (width - 1) = omega (arith, ints, pow_pos (width - 1)) in
    signed_of_low width n low
signed_of-unsigned_of width (negsuc n) some fits =
    let small : n < 2 ^ (width - 1) = omega (arith, ints) in
    let twice = double width some in
    let high : 2 ^ (width - 1) ≤ 2 ^ width - suc n = omega (arith, twice) in
    let below : 2 ^ width - suc n < 2 ^ width = omega (arith, pow_pos width) in
    let back : 2 ^ width - suc (2 ^ width - suc n) ≡ n = omega (arith, twice) in
    signed_of_high width (2 ^ width - suc n) high below ∙ ap negsuc back

-- an even number is spelled by even bits
pub even-unsigned_of : (width : ℕ) (z : ℤ) → 0 < width → FitsIn width z → magnitude_of z % 2 ≡ 0
    → unsigned_of width z % 2 ≡ 0
even-unsigned_of width (pos n) some fits even = even
even-unsigned_of width (negsuc n) some fits even =
    let small : n < 2 ^ (width - 1) = omega (arith, ints) in
    omega (arith, double width some)

pub even-signed_of : (width n : ℕ) → 0 < width → n < 2 ^ width → n % 2 ≡ 0
    → magnitude_of (signed_of width n) % 2 ≡ 0
even-signed_of width n some below even =
    elim (low_or_high width n) [
      | inl low ↦ ap (λ (z : ℤ). magnitude_of z % 2) (signed_of_low width n low) ∙ even
      | inr high ↦
          let rest : suc (2 ^ width - suc n) % 2 ≡ 0 = omega (arith, double width some) in
          ap (λ (z : ℤ). magnitude_of z % 2) (signed_of_high width n high below) ∙ rest
    ]

-- a multiple of 4096 is spelled by bits that are one
pub whole-unsigned_of : (z : ℤ) → FitsIn 32 z → magnitude_of z % 4096 ≡ 0
    → unsigned_of 32 z % 4096 ≡ 0
whole-unsigned_of (pos n) fits whole = whole
whole-unsigned_of (negsuc n) fits whole =
    let small : n < 2 ^ 31 = omega (arith, ints) in
    omega arith

pub whole-signed_of : (n : ℕ) → n < 2 ^ 32 → n % 4096 ≡ 0
    → magnitude_of (signed_of 32 n) % 4096 ≡ 0
whole-signed_of n below whole =
    elim (low_or_high 32 n) [
      | inl low ↦ ap (λ (z : ℤ). magnitude_of z % 4096) (signed_of_low 32 n low) ∙ whole
      | inr high ↦
          let rest : suc (2 ^ 32 - suc n) % 4096 ≡ 0 = omega arith in
          ap (λ (z : ℤ). magnitude_of z % 4096) (signed_of_high 32 n high below) ∙ rest
    ]

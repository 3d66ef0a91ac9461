-- Signed numbers as bits, and back.
use Rattle.std.proofs.Common.{◌≡◌, ℕ, suc, ◌+◌, ◌-◌, ◌%◌, ◌^◌, ◌<◌, ◌≤◌, ℤ, pos, negsuc, ap, subst, ◌∙◌, arith, ◌/◌, bit_and, pow_pos}
use Rattle.std.specs.Int.{cast_unsigned, w64}
use Rattle.std.proofs.lemmas.Int.{ints}
use Rattle.std.proofs.Math.Nat.{mod-eq_of_lt, pow-le-pow_right}
use Rattle.std.proofs.Math.Pow.{not_mod}
use Rattle.rv64_isa.proofs.Masks.{and_ones_shr}
use Rattle.rv64_isa.specs.Signed.{unsigned_of, FitsIn}

-- half of a power of two is no more than the power
half_below : (width : ℕ) → 2 ^ (width - 1) ≤ 2 ^ width
half_below width = let le : width - 1 ≤ width = omega arith in pow-le-pow_right (omega arith) le

-- what the lowest bits of a signed number spell
lowest_of : (width : ℕ) (z : ℤ) → width ≤ 64 → FitsIn width z
    → cast_unsigned w64 z % 2 ^ width ≡ unsigned_of width z
lowest_of width (pos n) within fits =
    let small : n ≤ 2 ^ (width - 1) - 1 = omega (arith, ints) in
    mod-eq_of_lt (omega (arith, half_below width, pow_pos (width - 1)))
lowest_of width (negsuc n) within fits =
    let small : n < 2 ^ (width - 1) = omega (arith, ints) in
    let below : n < 2 ^ width = omega (arith, half_below width) in
    let e : 64 - width + width ≡ 64 = omega arith in
    let P : ℕ → Type 0 = λ w. (2 ^ w - 1 - n) % 2 ^ width ≡ 2 ^ width - 1 - n in
    let l : 2 ^ 64 - suc n ≡ 2 ^ 64 - 1 - n = omega arith in
    let r : 2 ^ width - 1 - n ≡ 2 ^ width - suc n = omega arith in
    ap (λ (k : ℕ). k % 2 ^ width) l ∙ subst P e (not_mod (64 - width) width below) ∙ r

-- the mask that the code takes them by
pub and_ones_shr_of : (width : ℕ) (z : ℤ) → width ≤ 64 → FitsIn width z
    → bit_and (cast_unsigned w64 z) ((2 ^ 64 - 1) / 2 ^ (64 - width)) ≡ unsigned_of width z
and_ones_shr_of width z within fits =
    and_ones_shr 64 (cast_unsigned w64 z) width within ∙ lowest_of width z within fits

-- they are bits of that width
pub unsigned_of_lt : (width : ℕ) (z : ℤ) → FitsIn width z → unsigned_of width z < 2 ^ width
unsigned_of_lt width (pos n) fits =
    let small : n ≤ 2 ^ (width - 1) - 1 = omega (arith, ints) in
    omega (arith, half_below width, pow_pos (width - 1))
unsigned_of_lt width (negsuc n) fits = omega (arith, pow_pos width)

-- at most 32 of them fit a word
pub unsigned_of-fits : (width : ℕ) (z : ℤ) → width ≤ 32 → FitsIn width z
    → unsigned_of width z < 2 ^ 32
unsigned_of-fits width z within fits =
    let most : 2 ^ width ≤ 2 ^ 32 = pow-le-pow_right (omega arith) within in
    omega (arith, unsigned_of_lt width z fits)

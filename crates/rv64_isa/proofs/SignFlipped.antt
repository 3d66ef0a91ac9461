-- The highest bit of a number, flipped.
use Rattle.std.proofs.Common.{◌≡◌, ℕ, suc, ◌+◌, ◌-◌, ◌*◌, ◌%◌, ◌^◌, ◌<◌, ◌≤◌, Bool, true, false, nat_lt, if◌then◌else◌, bit_and, ap, refl, ◌∙◌, arith, ◌/◌, bit_xor, ltb-true, ltb-false}
use Rattle.std.specs.Int.Bits.{xor_add_and}
use Rattle.std.proofs.lemmas.Nat.Bits.{and_pow}
use Rattle.std.proofs.Math.Nat.{div-eq_of_lt, div-eq_of_lt-le}

-- it is set where the number is not below its power
at_top : (n k q : ℕ) → n / 2 ^ k ≡ q → bit_and n (2 ^ k) ≡ q % 2 * 2 ^ k
at_top n k q e = and_pow n k ∙ ap (λ (j : ℕ). j % 2 * 2 ^ k) e

by_top : (n k : ℕ) → n < 2 ^ suc k → (below : Bool) → nat_lt n (2 ^ k) ≡ below
    → bit_xor n (2 ^ k) ≡ (if below then n + 2 ^ k else n - 2 ^ k)
by_top n k fits true e =
    let unset : bit_and n (2 ^ k) ≡ 0 = omega (arith, at_top n k 0 (div-eq_of_lt (ltb-true n (2 ^ k) e))) in
    omega (arith, xor_add_and n (2 ^ k))
by_top n k fits false e =
    let least : 2 ^ k ≤ n = ltb-false n (2 ^ k) e in
    let set : bit_and n (2 ^ k) ≡ 1 * 2 ^ k = at_top n k 1 (div-eq_of_lt-le (2 ^ k) (omega arith) (omega arith)) in
    omega (arith, xor_add_and n (2 ^ k))

pub flipped : (n k : ℕ) → n < 2 ^ suc k → bit_xor n (2 ^ k) ≡ (if nat_lt n (2 ^ k) then n + 2 ^ k else n - 2 ^ k)
flipped n k fits = by_top n k fits (nat_lt n (2 ^ k)) refl

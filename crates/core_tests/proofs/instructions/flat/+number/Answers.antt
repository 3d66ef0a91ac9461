use Rattle.std.proofs.Common.{◌≡◌, ℕ, suc, ◌+◌, ◌*◌, ◌^◌, ◌<◌, ◌≤◌, length, arith}
use Rattle.std.proofs.lemmas.Nat.{pow-add}
use Rattle.std.proofs.Math.Nat.{pow-le-pow_right}
use Rattle.core_tests.proofs.instructions.flat.+number.Goals as goal

-- one more byte below the others
below_pow : (n k b m : ℕ) → n ≡ suc k → b < 256 → m < 2 ^ (8 * k) → b + 256 * m < 2 ^ (8 * n)
below_pow n k b m more byte below =
    let e : 8 * n ≡ 8 + 8 * k = omega arith in
    rw (e, pow-add 2 8 (8 * k)) (omega arith)

-- eight bytes at most
below_word : (n b m : ℕ) → n ≤ 8 → b + 256 * m < 2 ^ (8 * n) → b + 256 * m < 2 ^ 64
below_word n b m most below =
    let bits : 8 * n ≤ 64 = omega arith in
    let pow : 2 ^ (8 * n) ≤ 2 ^ 64 = pow-le-pow_right (omega arith) bits in
    omega arith

below : (t : ℕ) (c : goal.After-number t) →
    c.from.result + 256 * c.number.result < 2 ^ (8 * length c.args.bytes.now)
below t c =
    below_pow _ _ _ _ (omega arith) (omega (arith, c.type_inv.bytes 0)) c.number.ensures.below

pub returns-in-len1-up-clause-below : goal.returns-in-len1-up-clause-below
returns-in-len1-up-clause-below t c = below t c

pub overflow_add-result : goal.overflow_add-result
overflow_add-result t c =
    let sum = below_word _ _ _ c.requires (below t c) in
    omega arith

pub overflow_mul-result : goal.overflow_mul-result
overflow_mul-result t c =
    let sum = below_word _ _ _ c.requires (below t c) in
    omega arith

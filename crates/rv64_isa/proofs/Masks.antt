-- The lowest bits of a number, and numbers joined from bits that do not overlap.
use Rattle.std.proofs.Common.{◌≡◌, ℕ, ◌+◌, ◌-◌, ◌*◌, ◌/◌, ◌%◌, ◌^◌, ◌<◌, ◌≤◌, bit_and, bit_or, ap, ◌∙◌, arith}
use Rattle.std.proofs.lemmas.Nat.{and_mask, or_shifted}
use Rattle.std.proofs.lemmas.Nat.Bits.{ones_shr}
use Rattle.std.proofs.Math.Nat.{mod-eq_of_lt}

-- a mask of k ones, made of w ones
pub and_ones_shr : (w n k : ℕ) → k ≤ w → bit_and n ((2 ^ w - 1) / 2 ^ (w - k)) ≡ n % 2 ^ k
and_ones_shr w n k within =
    let all : w - k ≤ w = omega arith in
    let e : w - (w - k) ≡ k = omega arith in
    ap (bit_and n) (ones_shr w (w - k) all ∙ ap (λ (j : ℕ). 2 ^ j - 1) e) ∙ and_mask n k

-- bits above others, within a word
pub or_shl : (a b k : ℕ) → a * 2 ^ k + b < 2 ^ 32 → b < 2 ^ k → bit_or (a * 2 ^ k % 2 ^ 32) b ≡ a * 2 ^ k + b
or_shl a b k in_word below =
    let whole : a * 2 ^ k % 2 ^ 32 ≡ a * 2 ^ k = mod-eq_of_lt (omega arith) in
    rw whole (or_shifted a k b below)

-- A test of all numbers from one to a bound.
use Rattle.std.proofs.Common.{◌≡◌, ℕ, zero, suc, ◌+◌, ◌-◌, ◌<◌, ◌≤◌, Bool, true, false, refl, ap, ◌∙◌, arith}
use Rattle.std.specs.List.{list_all, range_with_len}
use Rattle.std.proofs.Math.Nat.{sub-zero}
use Rattle.std.proofs.lemmas.Bool.{and_parts}

-- whether each number from n on and below c passes
abbrev pub all_between : (ℕ → Bool) → ℕ → ℕ → Bool
all_between p n c = list_all p (range_with_len n (c - n))

module _ (p : ℕ → Bool) where
  passes-len : (n k m : ℕ) → m ≡ suc k → p n ≡ true → list_all p (range_with_len (n + 1) k) ≡ list_all p (range_with_len n m)
  passes-len n k m len is = rw (len, is) refl

  fails-len : (n k m : ℕ) → m ≡ suc k → p n ≡ false → false ≡ list_all p (range_with_len n m)
  fails-len n k m len is = rw (len, is) refl

  ends-len : (n m : ℕ) → m ≡ 0 → true ≡ list_all p (range_with_len n m)
  ends-len n m len = rw len refl

  pub all-begins : (c : ℕ) → all_between p 0 c ≡ list_all p (range_with_len 0 c)
  all-begins c = rw sub-zero refl

  -- a number that passes leaves the rest
  pub all-passes : (n c : ℕ) → n < c → p n ≡ true → all_between p (n + 1) c ≡ all_between p n c
  all-passes n c below is =
      let len : c - n ≡ suc (c - (n + 1)) = omega arith in passes-len n (c - (n + 1)) (c - n) len is

  -- one that doesn't decides
  pub all-fails : (n c : ℕ) → n < c → p n ≡ false → false ≡ all_between p n c
  all-fails n c below is =
      let len : c - n ≡ suc (c - (n + 1)) = omega arith in fails-len n (c - (n + 1)) (c - n) len is

  -- none is left
  pub all-ends : (n c : ℕ) → c ≤ n → true ≡ all_between p n c
  all-ends n c above = let len : c - n ≡ 0 = omega arith in ends-len n (c - n) len

  -- where all pass, each does
  at-from : (a n c : ℕ) → list_all p (range_with_len a c) ≡ true → n < c → p (a + n) ≡ true
  at-from a n zero all below = absurd (omega (arith, below))
  at-from a zero (suc c) all below = ap p (omega arith) ∙ (and_parts (p a) (list_all p (range_with_len (a + 1) c)) all).0
  at-from a (suc n) (suc c) all below =
      let later = at-from (a + 1) n c (and_parts (p a) (list_all p (range_with_len (a + 1) c)) all).1 (omega (arith, below)) in
      ap p (omega arith) ∙ later

  pub all-at : (n c : ℕ) → list_all p (range_with_len 0 c) ≡ true → n < c → p n ≡ true
  all-at n c all below = ap p (omega arith) ∙ at-from 0 n c all below

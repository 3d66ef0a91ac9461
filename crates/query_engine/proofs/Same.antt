-- Pairs go by the sources of each byte of the target.
use Rattle.std.proofs.Common.{◌≡◌, ℕ, zero, suc, ◌+◌, ◌<◌, ◌++◌, List, Result, Ok, Err, IfOk, refl, ap, subst, ◌∙◌, arith}
use Rattle.arn_base.specs.declared.records.Pair.{Pair}
use Rattle.lineage_model.specs.Pairs.{byte_pairs, pairs_from}
use Rattle.lineage_model.specs.Tracking.{EventByte}

module _ (xs ys : ℕ → List EventByte) where
  from-same : (k len : ℕ) → ((n : ℕ) → n < len → xs (k + n) ≡ ys (k + n)) → pairs_from xs k len ≡ pairs_from ys k len
  from-same k zero same = refl
  from-same k (suc len) same =
      let first : xs k ≡ ys k = at (k + 0) k (omega arith) (same 0 (omega arith)) in
      let rest : pairs_from xs (k + 1) len ≡ pairs_from ys (k + 1) len = from-same (k + 1) len (λ n low. at (k + suc n) (k + 1 + n) (omega arith) (same (suc n) (omega (arith, low)))) in
      ap (λ (bytes : List EventByte). byte_pairs k bytes ++ pairs_from xs (k + 1) len) first
      ∙ ap (λ (pairs : List Pair). byte_pairs k (ys k) ++ pairs) rest
    where
      at : (n m : ℕ) → n ≡ m → xs n ≡ ys n → xs m ≡ ys m
      at n m e h = subst (λ (i : ℕ). xs i ≡ ys i) e h

  pub pairs-same : (len : ℕ) → ((n : ℕ) → n < len → xs n ≡ ys n) → pairs_from xs 0 len ≡ pairs_from ys 0 len
  pairs-same len same = from-same 0 len (λ n low. subst (λ (i : ℕ). xs i ≡ ys i) (omega arith) (same n low))

pub ok-map : {T E : Type 0} {P Q : T → Type 0} (r : Result T E) → ((x : T) → P x → Q x) → IfOk r P → IfOk r Q
ok-map (Ok x) f h = f x h
ok-map (Err e) f h = tt

pub ok-both : {T E : Type 0} {P Q R : T → Type 0} (r : Result T E) → ((x : T) → P x → Q x → R x) → IfOk r P → IfOk r Q → IfOk r R
ok-both (Ok x) f h k = f x h k
ok-both (Err e) f h k = tt

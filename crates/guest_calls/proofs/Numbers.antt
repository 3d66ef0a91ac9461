-- Things by number, after one of them changes.
use Rattle.std.proofs.Common.{◌≡◌, ℕ, zero, suc, ◌<◌, List, [], ◌∷◌, ◌++◌, length, map, set, Option, None, is_some, true, refl, sym, ap, arith, true≢false}
use Rattle.std.specs.Prelude.{option_and_then}
use Rattle.parts_model.specs.Numbered.{nth}

module _ {A : Type 0} where
  pub nth-set : (all : List (Option A)) (n : ℕ) (v : Option A) → n < length all → nth (set all n v) n ≡ v
  nth-set [] n v within = absurd (omega arith)
  nth-set (x ∷ all) zero v within = refl
  nth-set (x ∷ all) (suc n) v within = nth-set all n v (omega arith)

  pub nth-set_other : (all : List (Option A)) (n : ℕ) (v : Option A) (q : ℕ) → (q ≡ n → ⊥) → nth (set all n v) q ≡ nth all q
  nth-set_other [] n v q other = refl
  nth-set_other (x ∷ all) zero v zero other = absurd (other refl)
  nth-set_other (x ∷ all) zero v (suc q) other = refl
  nth-set_other (x ∷ all) (suc n) v zero other = refl
  nth-set_other (x ∷ all) (suc n) v (suc q) other = nth-set_other all n v q (λ (e : q ≡ n). other (ap (λ (k : ℕ). suc k) e))

  -- one that is made of what was there
  pub nth-set_own : (f : Option A → Option A) → f None ≡ None → (all : List (Option A)) (n : ℕ) → nth (set all n (f (nth all n))) n ≡ f (nth all n)
  nth-set_own f none [] n = sym none
  nth-set_own f none (x ∷ all) zero = refl
  nth-set_own f none (x ∷ all) (suc n) = nth-set_own f none all n

  pub nth-then : (f : A → Option A) (all : List (Option A)) (q : ℕ) → nth (map (option_and_then f) all) q ≡ option_and_then f (nth all q)
  nth-then f [] q = refl
  nth-then f (x ∷ all) zero = refl
  nth-then f (x ∷ all) (suc q) = nth-then f all q

  pub nth-within : (all : List (Option A)) (n : ℕ) → is_some (nth all n) ≡ true → n < length all
  nth-within [] n there = absurd (true≢false (sym there))
  nth-within (x ∷ all) zero there = omega arith
  nth-within (x ∷ all) (suc n) there = omega (arith, nth-within all n there)

  -- one more behind the others
  pub nth-add : (all : List (Option A)) (x : Option A) → nth (all ++ x ∷ []) (length all) ≡ x
  nth-add [] x = refl
  nth-add (y ∷ all) x = nth-add all x

  pub nth-add_other : (all : List (Option A)) (x : Option A) (n : ℕ) → (n ≡ length all → ⊥) → nth (all ++ x ∷ []) n ≡ nth all n
  nth-add_other [] x zero other = absurd (other refl)
  nth-add_other [] x (suc n) other = refl
  nth-add_other (y ∷ all) x zero other = refl
  nth-add_other (y ∷ all) x (suc n) other = nth-add_other all x n (λ (e : n ≡ length all). other (ap (λ (k : ℕ). suc k) e))

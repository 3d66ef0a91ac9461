-- Things by number, after one of them changes.
use Rattle.std.proofs.Common.{◌≡◌, ℕ, zero, suc, ◌<◌, List, [], ◌∷◌, ◌++◌, length, map, get_or, set, Option, None, IsSome, option_map, refl, sym, ap, arith, true≢false}
use Rattle.parts_model.specs.Numbered.{nth}

module _ {A : Type 0} where
  -- a thing that is there has a number below the next one
  pub IsSome-within : (all : List (Option A)) (n : ℕ) → IsSome (nth all n) → n < length all
  IsSome-within [] n there = absurd (true≢false (sym there))
  IsSome-within (x ∷ all) zero there = omega arith
  IsSome-within (x ∷ all) (suc n) there = omega (arith, IsSome-within all n there)

  -- what stands in the place of a thing is what is there
  pub nth-get_or : (all : List (Option A)) (n : ℕ) (slot : Option A) → IsSome (nth all n) → slot ≡ get_or all n slot → nth all n ≡ slot
  nth-get_or [] n slot there read = absurd (true≢false (sym there))
  nth-get_or (x ∷ all) zero slot there read = sym read
  nth-get_or (x ∷ all) (suc n) slot there read = nth-get_or all n slot there read

  pub nth-set : (all : List (Option A)) (n : ℕ) (v : Option A) → n < length all → nth (set all n v) n ≡ v
  nth-set [] n v within = absurd (omega arith)
  nth-set (x ∷ all) zero v within = refl
  nth-set (x ∷ all) (suc n) v within = nth-set all n v (omega arith)

  pub nth-set_other : (all : List (Option A)) (n : ℕ) (v : Option A) (q : ℕ) → (q ≡ n → ⊥) → nth (set all n v) q ≡ nth all q
  nth-set_other [] n v q other = refl
  nth-set_other (x ∷ all) zero v zero other = absurd (other refl)
  nth-set_other (x ∷ all) zero v (suc q) other = refl
  nth-set_other (x ∷ all) (suc n) v zero other = refl
  nth-set_other (x ∷ all) (suc n) v (suc q) other = nth-set_other all n v q (λ (e : q ≡ n). other (ap (λ (k : ℕ). suc k) e))

  -- a thing that is taken away
  pub nth-none : (all : List (Option A)) (n : ℕ) → nth (set all n None) n ≡ None
  nth-none [] n = refl
  nth-none (x ∷ all) zero = refl
  nth-none (x ∷ all) (suc n) = nth-none all n

  -- a thing that is put where it stands
  pub set-nth : (all : List (Option A)) (n : ℕ) (a : Option A) → IsSome (nth all n) → nth all n ≡ a → set all n a ≡ all
  set-nth [] n a there is = refl
  set-nth (x ∷ all) zero a there is = ap (λ (y : Option A). y ∷ all) (sym is)
  set-nth (x ∷ all) (suc n) a there is = ap (λ (l : List (Option A)). x ∷ l) (set-nth all n a there is)

  pub nth-push : (all : List (Option A)) (x : Option A) (q : ℕ) → q < length all → nth (all ++ x ∷ []) q ≡ nth all q
  nth-push [] x q within = absurd (omega arith)
  nth-push (y ∷ all) x zero within = refl
  nth-push (y ∷ all) x (suc q) within = nth-push all x q (omega arith)

  pub nth-last : (all : List (Option A)) (x : Option A) → nth (all ++ x ∷ []) (length all) ≡ x
  nth-last [] x = refl
  nth-last (y ∷ all) x = nth-last all x

  pub nth-map : {B : Type 0} (f : A → B) (all : List (Option A)) (q : ℕ) → nth (map (option_map f) all) q ≡ option_map f (nth all q)
  nth-map f [] q = refl
  nth-map f (x ∷ all) zero = refl
  nth-map f (x ∷ all) (suc q) = nth-map f all q

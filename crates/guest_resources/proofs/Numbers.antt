-- Things by number, after one of them changes.
use Rattle.std.proofs.Common.{◌≡◌, ℕ, zero, suc, true, List, [], ◌∷◌, ◌++◌, length, set, Option, None, is_some, refl, sym, ap, true≢false}
use Rattle.parts_model.specs.Numbered.{nth}

module _ {A : Type 0} where
  pub nth-set : (all : List (Option A)) (n : ℕ) (v : Option A) → is_some (nth all n) ≡ true → nth (set all n v) n ≡ v
  nth-set [] n v there = absurd (true≢false (sym there))
  nth-set (x ∷ all) zero v there = refl
  nth-set (x ∷ all) (suc n) v there = nth-set all n v there

  pub nth-set_other : (all : List (Option A)) (n : ℕ) (v : Option A) (q : ℕ) → (q ≡ n → ⊥) → nth (set all n v) q ≡ nth all q
  nth-set_other [] n v q other = refl
  nth-set_other (x ∷ all) zero v zero other = absurd (other refl)
  nth-set_other (x ∷ all) zero v (suc q) other = refl
  nth-set_other (x ∷ all) (suc n) v zero other = refl
  nth-set_other (x ∷ all) (suc n) v (suc q) other = nth-set_other all n v q (λ (e : q ≡ n). other (ap (λ (k : ℕ). suc k) e))

  -- where nothing is, none changes nothing
  pub set-none : (all : List (Option A)) (n : ℕ) → nth all n ≡ None → set all n None ≡ all
  set-none [] n is = refl
  set-none (x ∷ all) zero is = ap (λ (y : Option A). y ∷ all) (sym is)
  set-none (x ∷ all) (suc n) is = ap (λ (l : List (Option A)). x ∷ l) (set-none all n is)

  -- one more behind the others
  pub nth-add : (all : List (Option A)) (x : Option A) → nth (all ++ x ∷ []) (length all) ≡ x
  nth-add [] x = refl
  nth-add (y ∷ all) x = nth-add all x

  pub nth-add_other : (all : List (Option A)) (x : Option A) (n : ℕ) → (n ≡ length all → ⊥) → nth (all ++ x ∷ []) n ≡ nth all n
  nth-add_other [] x zero other = absurd (other refl)
  nth-add_other (y ∷ all) x (suc n) other = nth-add_other all x n (λ (e : n ≡ length all). other (ap (λ (k : ℕ). suc k) e))
  nth-add_other _ x _ other = refl

  pub nth-behind : (all : List (Option A)) → nth all (length all) ≡ None
  nth-behind [] = refl
  nth-behind (x ∷ all) = nth-behind all

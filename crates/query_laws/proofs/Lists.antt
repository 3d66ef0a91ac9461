-- Members of lists, and tests of them.
use Rattle.std.proofs.lemmas.Grind.{common_steps}
use Rattle.std.proofs.Common.{◌≡◌, ◌⊎◌, inl, inr, ℕ, zero, suc, ◌+◌, ◌<◌, ◌≤◌, ◌||◌, Bool, true, false, if◌then◌else◌, List, [], ◌∷◌, refl, ap, subst, ◌∙◌, arith}
use Rattle.std.proofs.lemmas.Bool.Decides.{nat_tests}
use Rattle.std.specs.List.{filter, list_any, range_with_len, Contains}
use Rattle.std.proofs.lemmas.Bool.{false≢true, or_left, or_right}
use Rattle.std.proofs.lemmas.Bool.Decides.{eqb_tells}
use Rattle.std.proofs.lemmas.List.Elements.{Contains-append_left, Contains-append_right, Contains-push}

pub none-in : {X : Type 0} (x : X) → Contains [] x → ⊥
none-in x h = omega (arith, h.1)

pub head-or-tail : {X : Type 0} (y x : X) (ys : List X) → Contains (y ∷ ys) x → (y ≡ x) ⊎ Contains ys x
head-or-tail y x ys h1 = grind (arith, nat_tests, none-in)

pub first-in : {X : Type 0} (x : X) (xs : List X) → Contains (x ∷ xs) x
first-in x xs = Contains-append_left (x ∷ []) xs x (Contains-push [] x)

pub later-in : {X : Type 0} (y x : X) (xs : List X) → Contains xs x → Contains (y ∷ xs) x
later-in y x xs h = Contains-append_right (y ∷ []) xs x h

module _ {X : Type 0} (p : X → Bool) where
  kept-first : (b : Bool) (x : X) (xs : List X) → b ≡ true → Contains (if b then x ∷ xs else xs) x
  kept-first true x xs h = first-in x xs
  kept-first false x xs h = absurd (false≢true h)

  kept-later : (b : Bool) (y x : X) (xs : List X) → Contains xs x → Contains (if b then y ∷ xs else xs) x
  kept-later true y x xs h = later-in y x xs h
  kept-later false y x xs h = h

  pub kept-in : (xs : List X) (x : X) → Contains xs x → p x ≡ true → Contains (filter p xs) x
  kept-in [] x has is = absurd (none-in x has)
  kept-in (y ∷ xs) x has is =
      elim (head-or-tail y x xs has) [
        | inl here ↦ subst (λ (z : X). Contains (if p y then y ∷ filter p xs else filter p xs) z) here (kept-first (p y) y (filter p xs) (ap p here ∙ is))
        | inr later ↦ kept-later (p y) y x (filter p xs) (kept-in xs x later is)
      ]

  kept-cases : (b : Bool) (y x : X) (xs : List X) → p y ≡ b → Contains (if b then y ∷ xs else xs) x → ((y ≡ x) × (p x ≡ true)) ⊎ Contains xs x
  kept-cases b y x xs h1 h2 = grind (arith, nat_tests, head-or-tail)

  pub in-kept : (xs : List X) (x : X) → Contains (filter p xs) x → Contains xs x × (p x ≡ true)
  in-kept [] x has = absurd (none-in x has)
  in-kept (y ∷ xs) x has =
      elim (kept-cases (p y) y x (filter p xs) refl has) [
        | inl here ↦ (subst (λ (z : X). Contains (y ∷ xs) z) here.0 (first-in y xs), here.1)
        | inr later ↦ (let rest = in-kept xs x later in (later-in y x xs rest.0, rest.1))
      ]

  pub any-in : (xs : List X) (x : X) → Contains xs x → p x ≡ true → list_any p xs ≡ true
  any-in xs x h1 h2 = grind (arith, common_steps, nat_tests, none-in, head-or-tail, or_left, or_right)

  abbrev Found : List X → Type 0
  Found xs = (x : X) × Contains xs x × (p x ≡ true)

  found-cases : (b : Bool) (y : X) (xs : List X) → p y ≡ b → (b || list_any p xs) ≡ true → (list_any p xs ≡ true → Found xs) → Found (y ∷ xs)
  found-cases true y xs is h rest = (y, first-in y xs, is)
  found-cases false y xs is h rest = let r = rest h in (r.0, later-in y r.0 xs r.1, r.2)

  pub in-any : (xs : List X) → list_any p xs ≡ true → (x : X) × Contains xs x × (p x ≡ true)
  in-any [] h = absurd (false≢true h)
  in-any (y ∷ xs) h = found-cases (p y) y xs refl h (in-any xs)

-- numbers that follow each other
first-or-above : (a k : ℕ) → a ≤ k → (a ≡ k) ⊎ (a + 1 ≤ k)
first-or-above a k h1 = grind (arith, nat_tests, eqb_tells)

pub in-range : (a n k : ℕ) → a ≤ k → k < a + n → Contains (range_with_len a n) k
in-range a zero k low high = absurd (omega (arith, low, high))
in-range a (suc n) k low high =
    elim (first-or-above a k low) [
      | inl is ↦ subst (λ (z : ℕ). Contains (range_with_len a (suc n)) z) is (first-in a (range_with_len (a + 1) n))
      | inr above ↦ later-in a k (range_with_len (a + 1) n) (in-range (a + 1) n k above (omega (arith, high)))
    ]

pub range-in : (a n k : ℕ) → Contains (range_with_len a n) k → (a ≤ k) × (k < a + n)
range-in a zero k has = absurd (none-in k has)
range-in a (suc n) k has =
    elim (head-or-tail a k (range_with_len (a + 1) n) has) [
      | inl is ↦ (omega (arith, is), omega (arith, is))
      | inr later ↦ (let rest = range-in (a + 1) n k later in (omega (arith, rest.0), omega (arith, rest.1)))
    ]

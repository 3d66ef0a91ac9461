-- How many numbers pass tests.
use Rattle.std.proofs.Common.{◌≡◌, inl, inr, ℕ, ◌+◌, ◌≤◌, Bool, true, false, if◌then◌else◌, List, [], ◌∷◌, length, refl, ap, subst, ◌∙◌, arith, filter, Contains}
use Rattle.std.proofs.lemmas.Bool.Decides.{nat_tests}
use Rattle.std.proofs.lemmas.Bool.{true≢false, false≢true}
use Rattle.query_laws.proofs.Lists.{none-in, head-or-tail}

-- a test that passes all that another does
abbrev pub Follows : (ℕ → Bool) → (ℕ → Bool) → Type 0
Follows p q = (n : ℕ) → p n ≡ true → q n ≡ true

abbrev pub passes : (ℕ → Bool) → List ℕ → ℕ
passes p xs = length (filter p xs)

either : (b c : Bool) (x : ℕ) (xs ys : List ℕ) → (b ≡ true → c ≡ true) → length xs ≤ length ys → length (if b then x ∷ xs else xs) ≤ length (if c then x ∷ ys else ys)
either b c x xs ys h1 h2 = grind (arith, nat_tests, false≢true)

pub passes-more : (p q : ℕ → Bool) → Follows p q → (xs : List ℕ) → passes p xs ≤ passes q xs
passes-more p q h [] = omega arith
passes-more p q h (x ∷ xs) = either (p x) (q x) x (filter p xs) (filter q xs) (h x) (passes-more p q h xs)

one-more : (b c : Bool) (x : ℕ) (xs ys : List ℕ) → b ≡ false → c ≡ true → length xs ≤ length ys → length (if b then x ∷ xs else xs) + 1 ≤ length (if c then x ∷ ys else ys)
one-more b c x xs ys h1 h2 h3 = grind (arith, nat_tests, false≢true, true≢false)

later-more : (b c : Bool) (x : ℕ) (xs ys : List ℕ) → (b ≡ true → c ≡ true) → length xs + 1 ≤ length ys → length (if b then x ∷ xs else xs) + 1 ≤ length (if c then x ∷ ys else ys)
later-more b c x xs ys h1 h2 = grind (arith, nat_tests, false≢true)

pub passes-one-more : (p q : ℕ → Bool) → Follows p q → (xs : List ℕ) (n : ℕ) → Contains xs n → p n ≡ false → q n ≡ true → passes p xs + 1 ≤ passes q xs
passes-one-more p q h [] n has low high = absurd (none-in n has)
passes-one-more p q h (x ∷ xs) n has low high =
    elim (head-or-tail x n xs has) [
      | inl is ↦ one-more (p x) (q x) x (filter p xs) (filter q xs) (ap p is ∙ low) (ap q is ∙ high) (passes-more p q h xs)
      | inr later ↦ later-more (p x) (q x) x (filter p xs) (filter q xs) (h x) (passes-one-more p q h xs n later low high)
    ]

few : (b : Bool) (x : ℕ) (xs ys : List ℕ) → length xs ≤ length ys → length (if b then x ∷ xs else xs) ≤ length (x ∷ ys)
few true x xs ys le = omega (arith, le)
few false x xs ys le = omega (arith, le)

pub passes-few : (p : ℕ → Bool) (xs : List ℕ) → passes p xs ≤ length xs
passes-few p [] = omega arith
passes-few p (x ∷ xs) = few (p x) x (filter p xs) xs (passes-few p xs)

full : (b : Bool) (x : ℕ) (xs ys : List ℕ) → length xs ≤ length ys → length (x ∷ ys) ≤ length (if b then x ∷ xs else xs) → (b ≡ true) × (length ys ≤ length xs)
full true x xs ys le h = (refl, omega (arith, h))
full false x xs ys le h = absurd (omega (arith, h, le))

-- where as many pass as there are, all do
pub passes-all : (p : ℕ → Bool) (xs : List ℕ) → length xs ≤ passes p xs → (n : ℕ) → Contains xs n → p n ≡ true
passes-all p [] h n has = absurd (none-in n has)
passes-all p (x ∷ xs) h n has =
    let parts = full (p x) x (filter p xs) xs (passes-few p xs) h in
    elim (head-or-tail x n xs has) [
      | inl is ↦ subst (λ (z : ℕ). p z ≡ true) is parts.0
      | inr later ↦ passes-all p xs parts.1 n later
    ]

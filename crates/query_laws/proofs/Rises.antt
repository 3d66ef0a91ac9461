-- Lists that rise.
use Rattle.std.proofs.Common.{◌≡◌, inl, inr, ℕ, zero, suc, ◌+◌, ◌<◌, Bool, true, false, if◌then◌else◌, List, [], ◌∷◌, refl, ap₂, sym, arith}
use Rattle.std.specs.List.{All, Contains, filter, range_with_len}
use Rattle.std.proofs.lemmas.List.Elements.{All-contains, All-cons, All-nil, All-filter}
use Rattle.exchange_graph.specs.Reach.{Rises, Lists}
use Rattle.query_laws.proofs.Lists.{none-in, head-or-tail, first-in, later-in}

above : (k a n : ℕ) → k < a → All (λ m. k < m) (range_with_len a n)
above k a zero h = All-nil (λ m. k < m)
above k a (suc n) h = All-cons (λ m. k < m) a (range_with_len (a + 1) n) h (above k (a + 1) n (omega (arith, h)))

pub range-rises : (a n : ℕ) → Rises (range_with_len a n)
range-rises a zero = tt
range-rises a (suc n) = (above a (a + 1) n (omega arith), range-rises (a + 1) n)

kept-rises : (b : Bool) (n : ℕ) (numbers : List ℕ) → All (λ m. n < m) numbers → Rises numbers → Rises (if b then n ∷ numbers else numbers)
kept-rises true n numbers all rises = (all, rises)
kept-rises false n numbers all rises = rises

pub filter-rises : (p : ℕ → Bool) (numbers : List ℕ) → Rises numbers → Rises (filter p numbers)
filter-rises p [] h = tt
filter-rises p (n ∷ numbers) h = kept-rises (p n) n (filter p numbers) (All-filter p (λ m. n < m) numbers h.0) (filter-rises p numbers h.1)

-- rising lists are told by their members
abbrev Within : List ℕ → List ℕ → Type 0
Within xs ys = (n : ℕ) → Contains xs n → Contains ys n

heads : (x y : ℕ) (xs ys : List ℕ) → Rises (x ∷ xs) → Rises (y ∷ ys) → Within (x ∷ xs) (y ∷ ys) → Within (y ∷ ys) (x ∷ xs) → x ≡ y
heads x y xs ys a b f g =
    elim (head-or-tail y x ys (f x (first-in x xs))) [
      | inl is ↦ sym is
      | inr later ↦ elim (head-or-tail x y xs (g y (first-in y ys))) [
        | inl is ↦ is
        | inr after ↦ (let low = All-contains (λ m. y < m) ys x b.0 later in let high = All-contains (λ m. x < m) xs y a.0 after in absurd (omega (arith, low, high)))
      ]
    ]

tails : (x y : ℕ) (xs ys : List ℕ) → x ≡ y → Rises (x ∷ xs) → Within (x ∷ xs) (y ∷ ys) → Within xs ys
tails x y xs ys is a f n has =
    elim (head-or-tail y n ys (f n (later-in x n xs has))) [
      | inl here ↦ (let low = All-contains (λ m. x < m) xs n a.0 has in absurd (omega (arith, low, is, here)))
      | inr later ↦ later
    ]

pub one-list : (xs ys : List ℕ) → Rises xs → Rises ys → Within xs ys → Within ys xs → xs ≡ ys
one-list [] [] a b f g = refl
one-list [] (y ∷ ys) a b f g = absurd (none-in y (g y (first-in y ys)))
one-list (x ∷ xs) [] a b f g = absurd (none-in x (f x (first-in x xs)))
one-list (x ∷ xs) (y ∷ ys) a b f g =
    let is = heads x y xs ys a b f g in
    ap₂ (λ (z : ℕ) (zs : List ℕ). z ∷ zs) is (one-list xs ys a.1 b.1 (tails x y xs ys is a f) (tails y x ys xs (sym is) b g))

pub listed-one : (Set : ℕ → Type 0) (xs ys : List ℕ) → Lists xs Set → Lists ys Set → xs ≡ ys
listed-one Set xs ys a b =
    one-list xs ys a.rises b.rises (λ n has. (b.members n).1 ((a.members n).0 has)) (λ n has. (a.members n).1 ((b.members n).0 has))

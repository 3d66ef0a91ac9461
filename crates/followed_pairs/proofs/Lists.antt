-- Members of lists that are mapped and joined.
use Rattle.std.proofs.Common.{◌≡◌, ◌⊎◌, inl, inr, ℕ, zero, suc, ◌+◌, ◌<◌, List, [], ◌∷◌, ◌++◌, length, slice_index_or, map, flat_map, Contains, refl, sym, ap, subst, ◌∙◌, arith, add-one, zero-add}
use Rattle.std.specs.List.{range_with_len}
use Rattle.std.proofs.lemmas.List.{flat_map_more}
use Rattle.std.proofs.lemmas.List.FromFn.{get_or-range_with_len, length-range_with_len}
use Rattle.std.proofs.lemmas.List.Elements.{Contains-append_left, Contains-append_right, Contains-append_cases}

module _ {X : Type 0} where
  none-in : (x : X) → Contains [] x → ⊥
  none-in x c = let below : c.0 < 0 = c.1 in omega arith

  front : (x : X) (xs : List X) → Contains (x ∷ xs) x
  front x xs = (0, omega arith, refl)

  behind : (x : X) (xs : List X) (y : X) → Contains xs y → Contains (x ∷ xs) y
  behind x xs y c = (suc c.0, (let below : c.0 < length xs = c.1 in omega arith), c.2)

  cases : (x : X) (xs : List X) (y : X) → Contains (x ∷ xs) y → (x ≡ y) ⊎ Contains xs y
  cases x xs y c = by c.0 c.1 c.2 where
    by : (k : ℕ) → k < length (x ∷ xs) → slice_index_or (x ∷ xs) k y ≡ y → (x ≡ y) ⊎ Contains xs y
    by zero h e = inl e
    by (suc k) h e = inr (k, omega arith, e)

module _ {X Y : Type 0} (f : X → List Y) where
  pub in-flat : (xs : List X) (x : X) (y : Y) → Contains xs x → Contains (f x) y → Contains (flat_map f xs) y
  in-flat [] x y c d = absurd (none-in x c)
  in-flat (z ∷ xs) x y c d = elim (cases z xs x c) [
    | inl e ↦ Contains-append_left (f z) (flat_map f xs) y (subst (λ w. Contains (f w) y) (sym e) d)
    | inr g ↦ Contains-append_right (f z) (flat_map f xs) y (in-flat xs x y g d)
  ]

  pub from-flat : (xs : List X) (y : Y) → Contains (flat_map f xs) y → (x : X) × Contains xs x × Contains (f x) y
  from-flat [] y c = absurd (none-in y c)
  from-flat (x ∷ xs) y c = elim (Contains-append_cases (f x) (flat_map f xs) y c) [
    | inl d ↦ (x, front x xs, d)
    | inr d ↦ let more = from-flat xs y d in (more.0, behind x xs more.0 more.1, more.2)
  ]

module _ {X Y : Type 0} (f : X → Y) where
  pub mapped : (xs : List X) (x : X) → Contains xs x → Contains (map f xs) (f x)
  mapped [] x c = absurd (none-in x c)
  mapped (y ∷ xs) x c = elim (cases y xs x c) [ inl e ↦ subst (λ (z : X). Contains (f y ∷ map f xs) (f z)) e (front (f y) (map f xs)) | inr d ↦ behind (f y) (map f xs) (f x) (mapped xs x d) ]

  pub unmapped : (xs : List X) (y : Y) → Contains (map f xs) y → (x : X) × Contains xs x × (f x ≡ y)
  unmapped [] y c = absurd (none-in y c)
  unmapped (x ∷ xs) y c = elim (cases (f x) (map f xs) y c) [ inl e ↦ (x, front x xs, e) | inr d ↦ let more = unmapped xs y d in (more.0, behind x xs more.0 more.1, more.2) ]

-- numbers from 0 on
pub range-below : (n k : ℕ) → Contains (range_with_len 0 n) k → k < n
range-below n k c =
    let low : c.0 < n = subst (λ (m : ℕ). c.0 < m) (length-range_with_len 0 n) c.1 in
    let is : k ≡ 0 + c.0 = sym c.2 ∙ get_or-range_with_len 0 n c.0 k low in
    omega (arith, low, is)

pub in-range : (n k : ℕ) → k < n → Contains (range_with_len 0 n) k
in-range n k low = (k, subst (λ (m : ℕ). k < m) (sym (length-range_with_len 0 n)) low, get_or-range_with_len 0 n k k low ∙ zero-add k)

range-more : (a n : ℕ) → range_with_len a (suc n) ≡ range_with_len a n ++ (a + n) ∷ []
range-more a zero = let same : a ≡ a + 0 = omega arith in ap (λ (m : ℕ). m ∷ []) same
range-more a (suc n) =
    let same : a + 1 + n ≡ a + suc n = omega arith in
    ap (λ (xs : List ℕ). a ∷ xs) (range-more (a + 1) n ∙ ap (λ (m : ℕ). range_with_len (a + 1) n ++ m ∷ []) same)

pub flat-more : {Y : Type 0} (f : ℕ → List Y) (n : ℕ) → flat_map f (range_with_len 0 (n + 1)) ≡ flat_map f (range_with_len 0 n) ++ f n
flat-more f n =
    ap (λ (m : ℕ). flat_map f (range_with_len 0 m)) (add-one n)
    ∙ (ap (flat_map f) (range-more 0 n) ∙ (ap (λ (m : ℕ). flat_map f (range_with_len 0 n ++ m ∷ [])) (zero-add n) ∙ sym (flat_map_more f [] (range_with_len 0 n) n)))

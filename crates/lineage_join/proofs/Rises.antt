-- Pairs that rise and have the same members are one list.
use Rattle.std.proofs.Common.{◌≡◌, ◌⊎◌, ◌↔◌, ℕ, zero, suc, ◌<◌, List, [], ◌∷◌, ◌++◌, length, slice_index_or, Contains, refl, sym, ap, subst, ◌∙◌, inl, inr, arith, Less, Greater}
use Rattle.std.specs.List.{AllByRecursion}
use Rattle.std.specs.List.Sorted.{IsStrictlySortedBy}
use Rattle.std.specs.Cmp.{IsTotalOrder}
use Rattle.std.specs.Cmp.Rules.{comparing}
use Rattle.std.specs.Ordering.{ordering_reverse}
use Rattle.arn_base.specs.declared.records.Pair.{Pair}
use Rattle.lineage_join.specs.Rising.{pair_cmp, IsRising}

pub pair_cmp-total : IsTotalOrder pair_cmp
pair_cmp-total = search comparing depth 9

module _ {X : Type 0} where
  pub none_in : (x : X) → Contains [] x → ⊥
  none_in x c = let below : c.0 < 0 = c.1 in omega arith

  pub front : (x : X) (xs : List X) → Contains (x ∷ xs) x
  front x xs = (0, omega arith, refl)

  pub behind : (x : X) (xs : List X) (y : X) → Contains xs y → Contains (x ∷ xs) y
  behind x xs y c = (suc c.0, (let below : c.0 < length xs = c.1 in omega arith), c.2)

  pub cases : (x : X) (xs : List X) (y : X) → Contains (x ∷ xs) y → (x ≡ y) ⊎ Contains xs y
  cases x xs y c = by c.0 c.1 c.2 where
    by : (k : ℕ) → k < length (x ∷ xs) → slice_index_or (x ∷ xs) k y ≡ y → (x ≡ y) ⊎ Contains xs y
    by zero h e = inl e
    by (suc k) h e = inr (k, omega arith, e)

  pub each : (P : X → Type 0) (xs : List X) (y : X) → AllByRecursion P xs → Contains xs y → P y
  each P [] y all c = absurd (none_in y c)
  each P (z ∷ zs) y all c = elim (cases z zs y c) [ inl e ↦ subst P e all.0 | inr d ↦ each P zs y all.1 d ]

  pub weaker : (P Q : X → Type 0) → ((x : X) → P x → Q x) → (xs : List X) → AllByRecursion P xs → AllByRecursion Q xs
  weaker P Q f [] h = tt
  weaker P Q f (x ∷ xs) h = (f x h.0, weaker P Q f xs h.1)

-- none is below itself, nor both below and above another
one_way : (x y : Pair) → pair_cmp x y ≡ Less → pair_cmp y x ≡ Less → ⊥
one_way x y a b = let back : pair_cmp x y ≡ Greater = pair_cmp-total.antisymm x y ∙ ap ordering_reverse b in let clash : Less ≡ Greater = sym a ∙ back in cc

abbrev pub HaveSame : List Pair → List Pair → Type 0
HaveSame xs ys = (p : Pair) → Contains xs p ↔ Contains ys p

same_front : (x y : Pair) (xs ys : List Pair) → IsRising (x ∷ xs) → IsRising (y ∷ ys) → HaveSame (x ∷ xs) (y ∷ ys) → x ≡ y
unfolding IsStrictlySortedBy
same_front x y xs ys r s same = elim (cases y ys x ((same x).0 (front x xs))) [
  | inl e ↦ sym e
  | inr d ↦ elim (cases x xs y ((same y).1 (front y ys))) [
    | inl e ↦ e
    | inr f ↦ absurd (one_way x y (each (λ z. pair_cmp x z ≡ Less) xs y r.0 f) (each (λ z. pair_cmp y z ≡ Less) ys x s.0 d))
  ]
]

not_again : (x : Pair) (xs : List Pair) → IsRising (x ∷ xs) → Contains xs x → ⊥
unfolding IsStrictlySortedBy
not_again x xs r c = let less = each (λ z. pair_cmp x z ≡ Less) xs x r.0 c in one_way x x less less

rest : (x : Pair) (xs ys : List Pair) → IsRising (x ∷ xs) → HaveSame (x ∷ xs) (x ∷ ys) → (p : Pair) → Contains xs p → Contains ys p
rest x xs ys r same p c = elim (cases x ys p ((same p).0 (behind x xs p c))) [
  | inl e ↦ absurd (not_again x xs r (subst (λ y. Contains xs y) (sym e) c))
  | inr d ↦ d
]

pub same_list : (xs ys : List Pair) → IsRising xs → IsRising ys → HaveSame xs ys → xs ≡ ys
unfolding IsStrictlySortedBy
same_list [] [] r s same = refl
same_list [] (y ∷ ys) r s same = absurd (none_in y ((same y).1 (front y ys)))
same_list (x ∷ xs) [] r s same = absurd (none_in x ((same x).0 (front x xs)))
same_list (x ∷ xs) (y ∷ ys) r s same =
    let e = same_front x y xs ys r s same in
    let both : HaveSame (x ∷ xs) (x ∷ ys) = subst (λ z. HaveSame (x ∷ xs) (z ∷ ys)) (sym e) same in
    let back : HaveSame (x ∷ ys) (x ∷ xs) = λ p. ((both p).1, (both p).0) in
    ap (λ z. z ∷ xs) e ∙ ap (λ zs. y ∷ zs) (same_list xs ys r.1 s.1 (λ p. (rest x xs ys r both p, rest x ys xs (subst (λ z. IsRising (z ∷ ys)) (sym e) s) back p)))

-- rising lists of which one is below the other
pub append-rises : (xs ys : List Pair) → IsRising xs → IsRising ys → AllByRecursion (λ x. AllByRecursion (λ y. pair_cmp x y ≡ Less) ys) xs → IsRising (xs ++ ys)
unfolding IsStrictlySortedBy
append-rises [] ys r s below = s
append-rises (x ∷ xs) ys r s below = (append-each (λ y. pair_cmp x y ≡ Less) xs ys r.0 below.0, append-rises xs ys r.1 s below.1)
  where
    append-each : (P : Pair → Type 0) (xs ys : List Pair) → AllByRecursion P xs → AllByRecursion P ys → AllByRecursion P (xs ++ ys)
    append-each P [] ys h k = k
    append-each P (x ∷ xs) ys h k = (h.0, append-each P xs ys h.1 k)

-- The pairs that hits are.
use Rattle.std.proofs.Common.{◌≡◌, ◌⊎◌, ◌↔◌, Bool, true, false, List, [], ◌∷◌, ◌++◌, map, Contains, refl, sym, ap, subst, ◌∙◌, inl, inr, nat_cmp, Ordering, Less, Equal}
use Rattle.std.specs.Bool.{Decides}
use Rattle.std.specs.Cmp.{Equal-is, IsEquivalence, IsTotalOrder, and_equiv, nat_eq_equiv, on_equiv, on_total, tied_itself}
use Rattle.std.specs.List.{AllByRecursion, dedup}
use Rattle.std.specs.List.Retain.{IsFiltered, DiffersFromLast}
use Rattle.std.specs.List.Sorted.{IsPermutation, IsSorted, IsStrictlySortedBy}
use Rattle.std.specs.Ordering.{eq_by_cmp, is_eq}
use Rattle.std.proofs.lemmas.Bool.Decides.{Decides-and, Decides-eqb, Decides-like}
use Rattle.std.proofs.lemmas.List.Elements.{Contains-append_left, Contains-push, Contains-push_cases}
use Rattle.std.proofs.lemmas.List.Filters.{dedup_is}
use Rattle.std.proofs.lemmas.List.Kept.{Contains-dedup, Contains-from_dedup, IsStrictlySortedBy-dedup}
use Rattle.std.proofs.lemmas.List.Sorted.{Contains-permutation, IsPermutation-sym}
use Rattle.arn_base.specs.declared.records.Pair.{Pair}
use Rattle.lineage_join.specs.contracts.found.HitOrd.TheImpl as hit_order
use Rattle.lineage_join.specs.contracts.found.HitPartialEq.TheImpl as hit_equal
use Rattle.lineage_join.specs.declared.found.Hit.{Hit}
use Rattle.lineage_join.specs.Hits.{HaveSameHits, pair_of}
use Rattle.lineage_join.specs.Rising.{pair_cmp, IsRising}
use Rattle.lineage_join.specs.Waits.{HasAlso}
use Rattle.lineage_join.proofs.Keys.{then-equal, equal}
use Rattle.lineage_join.proofs.Rises.{none_in, front, behind, cases, pair_cmp-total}

abbrev pub hit_cmp : Hit → Hit → Ordering
hit_cmp = (hit_order.ghosts).cmp

same-order : (a b : Hit) → hit_cmp a b ≡ pair_cmp (pair_of a) (pair_of b)
same-order a b = refl

same-hit : (a b : Hit) → a.byte ≡ b.byte → a.event ≡ b.event → a.at ≡ b.at → a ≡ b
same-hit a b x e f = λ i. record { byte = x i; event = e i; at = f i }

hit-ties : (a b : Hit) → hit_cmp a b ≡ Equal → a ≡ b
hit-ties a b h =
    let p = then-equal (nat_cmp a.byte b.byte) _ (sym (same-order a b) ∙ h) in
    let q = then-equal (nat_cmp a.event b.event) _ p.1 in
    same-hit a b (equal a.byte b.byte p.0) (equal a.event b.event q.0) (equal a.at b.at q.1)

-- members of a mapped list
module _ {X Y : Type 0} (f : X → Y) where
  pub mapped : (xs : List X) (x : X) → Contains xs x → Contains (map f xs) (f x)
  mapped [] x c = absurd (none_in x c)
  mapped (y ∷ xs) x c = elim (cases y xs x c) [ inl e ↦ subst (λ (z : X). Contains (f y ∷ map f xs) (f z)) e (front (f y) (map f xs)) | inr d ↦ behind (f y) (map f xs) (f x) (mapped xs x d) ]

  pub unmapped : (xs : List X) (y : Y) → Contains (map f xs) y → (x : X) × Contains xs x × (f x ≡ y)
  unmapped [] y c = absurd (none_in y c)
  unmapped (x ∷ xs) y c = elim (cases (f x) (map f xs) y c) [ inl e ↦ (x, front x xs, e) | inr d ↦ let more = unmapped xs y d in (more.0, behind x xs more.0 more.1, more.2) ]

module _ (old new : List Hit) (hit : Hit) (is : new ≡ old ++ hit ∷ []) where
  has-hit : (x : Hit) → Contains new x ↔ (Contains old x ⊎ (hit ≡ x))
  has-hit x = (
    λ c. Contains-push_cases old hit x (subst (λ (l : List Hit). Contains l x) is c),
    λ s. subst (λ (l : List Hit). Contains l x) (sym is) (elim s [ inl c ↦ Contains-append_left old (hit ∷ []) x c | inr e ↦ subst (λ (y : Hit). Contains (old ++ hit ∷ []) y) e (Contains-push old hit) ]),
  )

  -- a hit that is pushed adds its pair
  pub pushed-also : HasAlso (map pair_of old) (pair_of hit) (map pair_of new)
  pushed-also p = (
    λ c. let from = unmapped pair_of new p c in elim ((has-hit from.0).0 from.1) [
      | inl d ↦ inl (subst (λ (q : Pair). Contains (map pair_of old) q) from.2 (mapped pair_of old from.0 d))
      | inr e ↦ inr (ap pair_of e ∙ from.2)
    ],
    λ s. elim s [
      | inl c ↦ let from = unmapped pair_of old p c in subst (λ (q : Pair). Contains (map pair_of new) q) from.2 (mapped pair_of new from.0 ((has-hit from.0).1 (inl from.1)))
      | inr e ↦ subst (λ (q : Pair). Contains (map pair_of new) q) e (mapped pair_of new hit ((has-hit hit).1 (inr refl)))
    ],
  )

-- the same members, of hits and of pairs
pub same-pairs : (old new : List Hit) → HaveSameHits old new → (p : Pair) → Contains (map pair_of new) p ↔ Contains (map pair_of old) p
same-pairs old new same p = (
  λ c. let from = unmapped pair_of new p c in subst (λ (q : Pair). Contains (map pair_of old) q) from.2 (mapped pair_of old from.0 ((same from.0).0 from.1)),
  λ c. let from = unmapped pair_of old p c in subst (λ (q : Pair). Contains (map pair_of new) q) from.2 (mapped pair_of new from.0 ((same from.0).1 from.1)),
)

pub also-pairs : (old mid new : List Hit) (hit : Hit) → HasAlso (map pair_of old) (pair_of hit) (map pair_of mid) → HaveSameHits mid new → HasAlso (map pair_of old) (pair_of hit) (map pair_of new)
also-pairs old mid new hit also same p = (λ c. (also p).0 ((same-pairs mid new same p).0 c), λ s. (same-pairs mid new same p).1 ((also p).1 s))

each-mapped : (a : Hit) (hits : List Hit) → AllByRecursion (λ b. hit_cmp a b ≡ Less) hits → AllByRecursion (λ q. pair_cmp (pair_of a) q ≡ Less) (map pair_of hits)
each-mapped a [] h = tt
each-mapped a (b ∷ hits) h = (sym (same-order a b) ∙ h.0, each-mapped a hits h.1)

rises : (hits : List Hit) → IsStrictlySortedBy hit_cmp hits → IsRising (map pair_of hits)
unfolding IsStrictlySortedBy
rises [] h = tt
rises (a ∷ hits) h = (each-mapped a hits h.0, rises hits h.1)

-- hits that are sorted, and then each kept once
hit-total : IsTotalOrder hit_cmp
hit-total = on_total pair_of pair_cmp-total

abbrev hit_eq : Hit → Hit → Bool
hit_eq = (hit_equal.ghosts).eq

hit-equivalence : IsEquivalence hit_eq
hit-equivalence = and_equiv (on_equiv (λ (h : Hit). h.byte) nat_eq_equiv) (and_equiv (on_equiv (λ (h : Hit). h.event) nat_eq_equiv) (on_equiv (λ (h : Hit). h.at) nat_eq_equiv))

hit-decides : (a b : Hit) → Decides (hit_eq a b) (a ≡ b)
hit-decides a b =
    Decides-like _ (λ (byte, rest). same-hit a b byte rest.0 rest.1) (λ same. (cc, (cc, cc)))
    (Decides-and _ _ (Decides-eqb a.byte b.byte) (Decides-and _ _ (Decides-eqb a.event b.event) (Decides-eqb a.at b.at)))

one-answer : (s t : Bool) → (s ≡ true → t ≡ true) → (t ≡ true → s ≡ true) → s ≡ t
one-answer true t f g = sym (f refl)
one-answer false true f g = g refl
one-answer false false f g = refl

level-self : (a b : Hit) → a ≡ b → eq_by_cmp hit_cmp a b ≡ true
level-self a b same = subst (λ (x : Hit). eq_by_cmp hit_cmp a x ≡ true) same (ap is_eq (tied_itself hit-total a))

eq-cmp : (a b : Hit) → hit_eq a b ≡ eq_by_cmp hit_cmp a b
eq-cmp a b = one-answer (hit_eq a b) (eq_by_cmp hit_cmp a b) (λ e. level-self a b ((hit-decides a b).0 e)) (λ e. (hit-decides a b).1 (hit-ties a b ((Equal-is (hit_cmp a b)).0 e)))

module _ (old mid new : List Hit) (moved : IsPermutation old mid) (kept : IsFiltered (DiffersFromLast hit_eq) [] mid new) where
  is : new ≡ dedup hit_eq mid
  is = dedup_is hit_eq mid new kept

  pub settled : HaveSameHits old new
  settled x = (
    λ c. Contains-permutation mid old x (IsPermutation-sym old mid moved) (Contains-from_dedup hit_eq mid x (subst (λ (l : List Hit). Contains l x) is c)),
    λ c. subst (λ (l : List Hit). Contains l x) (sym is) (Contains-dedup hit-equivalence (λ a b e. (hit-decides a b).0 e) mid x (Contains-permutation old mid x moved c)),
  )

  pub settled-rises : IsSorted hit_cmp mid → IsRising (map pair_of new)
  settled-rises up = rises new (subst (λ (l : List Hit). IsStrictlySortedBy hit_cmp l) (sym is) (IsStrictlySortedBy-dedup hit-total eq-cmp mid up))

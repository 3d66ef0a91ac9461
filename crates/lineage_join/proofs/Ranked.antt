-- The pairs that answer rise, and their members are those of the sources.
use Rattle.std.proofs.Common.{◌≡◌, ◌⊎◌, ◌↔◌, ℕ, zero, suc, ◌+◌, ◌<◌, ◌≤◌, ◌==◌, ◌||◌, ◌&&◌, nat_lt, Bool, true, false, cond, true≢false, List, [], ◌∷◌, ◌++◌, Contains, refl, sym, ap, subst, ◌∙◌, inl, inr, arith, Ordering, Less, Equal, Greater}
use Rattle.std.specs.List.{AllByRecursion}
use Rattle.std.specs.List.Sorted.{IsStrictlySortedBy}
use Rattle.std.specs.Ordering.{nat_cmp, ordering_then, ordering_reverse}
use Rattle.std.proofs.lemmas.Bool.{eqb-true, and_parts}
use Rattle.std.proofs.lemmas.Bool.Decides.{nat_tests}
use Rattle.std.proofs.lemmas.List.Elements.{Contains-append_left, Contains-append_right, Contains-append_cases}
use Rattle.arn_base.specs.declared.records.Pair.{Pair}
use Rattle.lineage_model.specs.Flow.{At, Byte, StartRegister, StartSlot, StartMemory}
use Rattle.lineage_model.specs.Pairs.{pair_at, comes_first, has_same_source, ranked, all_ranked, byte_pairs, pairs_from}
use Rattle.lineage_model.specs.Tracking.{EventByte}
use Rattle.lineage_join.specs.Laws.{PairsAreOne, PairsAreTold}
use Rattle.lineage_join.specs.Rising.{pair_cmp, IsRising, source_of}
use Rattle.lineage_join.proofs.Rises.{pair_cmp-total, none_in, front, behind, cases, weaker, same_list, append-rises}

cmp-same : (n m : ℕ) → n ≡ m → nat_cmp n m ≡ Equal
cmp-same n m h = grind (arith, nat_tests)

cmp-less : (n m : ℕ) → n < m → nat_cmp n m ≡ Less
cmp-less n m h = grind (arith, nat_tests)

-- tests of two numbers each, and the order by them
first-less : (l q k : Bool) (o : Ordering) → (l || (q && k)) ≡ true → ordering_then (cond l Less (cond q Equal Greater)) (cond k Less o) ≡ Less
first-less true q k o h = refl
first-less false true true o h = refl
first-less false true false o h = absurd (true≢false (sym h))
first-less false false k o h = absurd (true≢false (sym h))

first-greater : (l q k r : Bool) → (q && r) ≡ false → (l || (q && k)) ≡ false → ordering_then (cond l Less (cond q Equal Greater)) (cond k Less (cond r Equal Greater)) ≡ Greater
first-greater true q k r s h = absurd (true≢false h)
first-greater false true true r s h = absurd (true≢false h)
first-greater false true false true s h = absurd (true≢false s)
first-greater false true false false s h = refl
first-greater false false k r s h = refl

-- two pairs of one byte of the target
by-source : (a b : Pair) → a.byte ≡ b.byte → pair_cmp a b ≡ ordering_then (nat_cmp a.event b.event) (nat_cmp a.at b.at)
by-source a b h = ap (λ (o : Ordering). ordering_then o (ordering_then (nat_cmp a.event b.event) (nat_cmp a.at b.at))) (cmp-same a.byte b.byte h)

below-first : (a b : Pair) → a.byte ≡ b.byte → comes_first a b ≡ true → pair_cmp a b ≡ Less
below-first a b h f = by-source a b h ∙ first-less (nat_lt a.event b.event) (a.event == b.event) (nat_lt a.at b.at) (cond (a.at == b.at) Equal Greater) f

above-else : (a b : Pair) → a.byte ≡ b.byte → has_same_source a b ≡ false → comes_first a b ≡ false → pair_cmp b a ≡ Less
above-else a b h s f =
    let greater : pair_cmp a b ≡ Greater = by-source a b h ∙ first-greater (nat_lt a.event b.event) (a.event == b.event) (nat_lt a.at b.at) (a.at == b.at) s f in
    pair_cmp-total.antisymm b a ∙ ap ordering_reverse greater

one-source : (a b : Pair) → a.byte ≡ b.byte → has_same_source a b ≡ true → a ≡ b
one-source a b h s =
    let both = and_parts (a.event == b.event) (a.at == b.at) s in
    same (eqb-true a.event b.event both.0) (eqb-true a.at b.at both.1) h
  where
    same : a.event ≡ b.event → a.at ≡ b.at → a.byte ≡ b.byte → a ≡ b
    same e f g = λ i. record { event = e i; at = f i; byte = g i }

abbrev pub OfByte : ℕ → List Pair → Type 0
OfByte k ps = AllByRecursion (λ p. p.byte ≡ k) ps

pub ranked-all : (P : Pair → Type 0) (a : Pair) (ps : List Pair) → P a → AllByRecursion P ps → AllByRecursion P (ranked a ps)
ranked-all P a [] h all = (h, tt)
ranked-all P a (b ∷ ps) h all = by_tests (has_same_source a b) (comes_first a b) (ranked-all P a ps h all.1)
  where
    by_tests : (s f : Bool) → AllByRecursion P (ranked a ps) → AllByRecursion P (cond s (b ∷ ps) (cond f (a ∷ b ∷ ps) (b ∷ ranked a ps)))
    by_tests true f more = all
    by_tests false true more = (h, all)
    by_tests false false more = (all.0, more)

pub ranked-has : (k : ℕ) (a : Pair) (ps : List Pair) → a.byte ≡ k → OfByte k ps → (p : Pair) → Contains (ranked a ps) p ↔ ((a ≡ p) ⊎ Contains ps p)
ranked-has k a [] h all p = (λ c. cases a [] p c, λ s. elim s [ inl e ↦ subst (λ q. Contains (a ∷ []) q) e (front a []) | inr c ↦ absurd (none_in p c) ])
ranked-has k a (b ∷ ps) h all p = by_tests (has_same_source a b) (comes_first a b) (one-source a b (h ∙ sym all.0)) (ranked-has k a ps h all.1 p)
  where
    by_tests : (s f : Bool) → (s ≡ true → a ≡ b) → (Contains (ranked a ps) p ↔ ((a ≡ p) ⊎ Contains ps p)) → Contains (cond s (b ∷ ps) (cond f (a ∷ b ∷ ps) (b ∷ ranked a ps))) p ↔ ((a ≡ p) ⊎ Contains (b ∷ ps) p)
    by_tests true f same more = (λ c. inr c, λ s. elim s [ inl e ↦ subst (λ q. Contains (b ∷ ps) q) (sym (same refl) ∙ e) (front b ps) | inr c ↦ c ])
    by_tests false true same more = (λ c. cases a (b ∷ ps) p c, λ s. elim s [ inl e ↦ subst (λ q. Contains (a ∷ b ∷ ps) q) e (front a (b ∷ ps)) | inr c ↦ behind a (b ∷ ps) p c ])
    by_tests false false same more = (
      λ c. elim (cases b (ranked a ps) p c) [
        | inl e ↦ inr (subst (λ q. Contains (b ∷ ps) q) e (front b ps))
        | inr d ↦ elim (more.0 d) [ inl e ↦ inl e | inr d ↦ inr (behind b ps p d) ]
      ],
      λ s. elim s [
        | inl e ↦ behind b (ranked a ps) p (more.1 (inl e))
        | inr c ↦ elim (cases b ps p c) [
          | inl e ↦ subst (λ q. Contains (b ∷ ranked a ps) q) e (front b (ranked a ps))
          | inr d ↦ behind b (ranked a ps) p (more.1 (inr d))
        ]
      ],
    )

pub ranked-rises : (k : ℕ) (a : Pair) (ps : List Pair) → a.byte ≡ k → OfByte k ps → IsRising ps → IsRising (ranked a ps)
unfolding IsStrictlySortedBy
ranked-rises k a [] h all r = (tt, tt)
ranked-rises k a (b ∷ ps) h all r =
    by_tests (has_same_source a b) (comes_first a b) (below-first a b (h ∙ sym all.0)) (above-else a b (h ∙ sym all.0)) (ranked-rises k a ps h all.1 r.1)
  where
    by_tests : (s f : Bool) → (f ≡ true → pair_cmp a b ≡ Less) → (s ≡ false → f ≡ false → pair_cmp b a ≡ Less) → IsRising (ranked a ps) → IsRising (cond s (b ∷ ps) (cond f (a ∷ b ∷ ps) (b ∷ ranked a ps)))
    by_tests true f low high more = r
    by_tests false true low high more = ((low refl, weaker (λ z. pair_cmp b z ≡ Less) (λ z. pair_cmp a z ≡ Less) (λ z l. pair_cmp-total.trans a b z (low refl) l) ps r.0), r)
    by_tests false false low high more = (ranked-all (λ z. pair_cmp b z ≡ Less) a ps (high refl refl) r.0, more)

-- the pairs of one byte of the target
module _ (k : ℕ) where
  next-of : (event : ℕ) (at : At) (ps : List Pair) → OfByte k ps → OfByte k (all_ranked (pair_at k event at) ps)
  next-of event (Byte a) ps h = ranked-all (λ p. p.byte ≡ k) (record { event = event; at = a; byte = k }) ps refl h
  next-of event _ ps h = h

  pub byte-of : (bytes : List EventByte) → OfByte k (byte_pairs k bytes)
  byte-of [] = tt
  byte-of (b ∷ bytes) = next-of b.event b.at (byte_pairs k bytes) (byte-of bytes)

  next-rises : (event : ℕ) (at : At) (ps : List Pair) → OfByte k ps → IsRising ps → IsRising (all_ranked (pair_at k event at) ps)
  next-rises event (Byte a) ps h r = ranked-rises k (record { event = event; at = a; byte = k }) ps refl h r
  next-rises event _ ps h r = r

  pub byte-rises : (bytes : List EventByte) → IsRising (byte_pairs k bytes)
  unfolding IsStrictlySortedBy
  byte-rises [] = tt
  byte-rises (b ∷ bytes) = next-rises b.event b.at (byte_pairs k bytes) (byte-of bytes) (byte-rises bytes)

  abbrev pub OfSources : List EventByte → Pair → Type 0
  OfSources bytes p = (p.byte ≡ k) × Contains bytes (source_of p)

  abbrev byte_at : At → ℕ
  byte_at (Byte a) = a
  byte_at _ = 0

  passed : (b : EventByte) (bytes : List EventByte) (ps : List Pair) (p : Pair) → ((b ≡ source_of p) → ⊥) → (Contains ps p ↔ OfSources bytes p) → Contains ps p ↔ OfSources (b ∷ bytes) p
  passed b bytes ps p apart more = (
    λ c. ((more.0 c).0, behind b bytes (source_of p) (more.0 c).1),
    λ s. elim (cases b bytes (source_of p) s.1) [ inl e ↦ absurd (apart e) | inr d ↦ more.1 (s.0, d) ],
  )

  next-has : (event : ℕ) (at : At) (bytes : List EventByte) (ps : List Pair) → OfByte k ps → (p : Pair) → (Contains ps p ↔ OfSources bytes p) → Contains (all_ranked (pair_at k event at) ps) p ↔ OfSources (record { event = event; at = at } ∷ bytes) p
  next-has event (Byte a) bytes ps h p more =
      let own : Pair = record { event = event; at = a; byte = k } in
      let has = ranked-has k own ps refl h p in (
        λ c. elim (has.0 c) [
          | inl e ↦ (ap (λ (q : Pair). q.byte) (sym e), subst (λ (q : Pair). Contains (source_of own ∷ bytes) (source_of q)) e (front (source_of own) bytes))
          | inr d ↦ ((more.0 d).0, behind (source_of own) bytes (source_of p) (more.0 d).1)
        ],
        λ s. elim (cases (source_of own) bytes (source_of p) s.1) [
          | inl e ↦ has.1 (inl (same own p (ap (λ (b : EventByte). b.event) e) (ap (λ (b : EventByte). byte_at b.at) e) (sym s.0)))
          | inr d ↦ has.1 (inr (more.1 (s.0, d)))
        ],
      )
    where
      same : (x y : Pair) → x.event ≡ y.event → x.at ≡ y.at → x.byte ≡ y.byte → x ≡ y
      same x y e f g = λ i. record { event = e i; at = f i; byte = g i }
  next-has event (StartRegister r i) bytes ps h p more = passed (record { event = event; at = StartRegister r i }) bytes ps p (λ e. let at : StartRegister r i ≡ Byte p.at = ap (λ (b : EventByte). b.at) e in cc) more
  next-has event (StartSlot r i) bytes ps h p more = passed (record { event = event; at = StartSlot r i }) bytes ps p (λ e. let at : StartSlot r i ≡ Byte p.at = ap (λ (b : EventByte). b.at) e in cc) more
  next-has event (StartMemory a) bytes ps h p more = passed (record { event = event; at = StartMemory a }) bytes ps p (λ e. let at : StartMemory a ≡ Byte p.at = ap (λ (b : EventByte). b.at) e in cc) more

  pub byte-has : (bytes : List EventByte) (p : Pair) → Contains (byte_pairs k bytes) p ↔ OfSources bytes p
  byte-has [] p = (λ c. absurd (none_in p c), λ s. absurd (none_in (source_of p) s.1))
  byte-has (b ∷ bytes) p = next-has b.event b.at bytes (byte_pairs k bytes) (byte-of bytes) p (byte-has bytes p)

-- those of all bytes
module _ (sources : ℕ → List EventByte) where
  pub from-has : (k len : ℕ) (p : Pair) → Contains (pairs_from sources k len) p ↔ ((k ≤ p.byte) × (p.byte < k + len) × Contains (sources p.byte) (source_of p))
  from-has k zero p = (λ c. absurd (none_in p c), λ s. let low = s.0 in let high = s.1 in absurd (omega arith))
  from-has k (suc len) p =
      let more = from-has (k + 1) len p in
      let here = byte-has k (sources k) p in (
        λ c. elim (Contains-append_cases (byte_pairs k (sources k)) (pairs_from sources (k + 1) len) p c) [
          | inl d ↦ let is = (here.0 d).0 in (omega arith, omega arith, subst (λ (n : ℕ). Contains (sources n) (source_of p)) (sym is) (here.0 d).1)
          | inr d ↦ let low = (more.0 d).0 in let high = (more.0 d).1 in (omega arith, omega arith, (more.0 d).2)
        ],
        λ s. elim (eq_or_lt k p.byte s.0) [
          | inl is ↦ Contains-append_left (byte_pairs k (sources k)) (pairs_from sources (k + 1) len) p (here.1 (sym is, subst (λ (n : ℕ). Contains (sources n) (source_of p)) (sym is) s.2))
          | inr low ↦ Contains-append_right (byte_pairs k (sources k)) (pairs_from sources (k + 1) len) p (more.1 (omega arith, (let high = s.1 in omega arith), s.2))
        ],
      )
    where
      eq_or_lt : (n m : ℕ) → n ≤ m → (n ≡ m) ⊎ (n < m)
      eq_or_lt zero zero h = inl refl
      eq_or_lt zero (suc m) h = inr (omega arith)
      eq_or_lt (suc n) zero h = absurd (omega arith)
      eq_or_lt (suc n) (suc m) h = elim (eq_or_lt n m (omega arith)) [ inl e ↦ inl (ap suc e) | inr l ↦ inr (omega arith) ]

  from-above : (k len : ℕ) → AllByRecursion (λ p. k ≤ p.byte) (pairs_from sources k len)
  from-above k zero = tt
  from-above k (suc len) = append-each (byte_pairs k (sources k)) (pairs_from sources (k + 1) len) (weaker (λ p. p.byte ≡ k) (λ p. k ≤ p.byte) (λ p e. omega arith) (byte_pairs k (sources k)) (byte-of k (sources k))) (weaker (λ p. k + 1 ≤ p.byte) (λ p. k ≤ p.byte) (λ p e. omega arith) (pairs_from sources (k + 1) len) (from-above (k + 1) len))
    where
      append-each : (xs ys : List Pair) → AllByRecursion (λ p. k ≤ p.byte) xs → AllByRecursion (λ p. k ≤ p.byte) ys → AllByRecursion (λ p. k ≤ p.byte) (xs ++ ys)
      append-each [] ys h g = g
      append-each (x ∷ xs) ys h g = (h.0, append-each xs ys h.1 g)

  less-byte : (x y : Pair) → x.byte < y.byte → pair_cmp x y ≡ Less
  less-byte x y h = ap (λ (o : Ordering). ordering_then o (ordering_then (nat_cmp x.event y.event) (nat_cmp x.at y.at))) (cmp-less x.byte y.byte h)

  pub from-rises : (k len : ℕ) → IsRising (pairs_from sources k len)
  unfolding IsStrictlySortedBy
  from-rises k zero = tt
  from-rises k (suc len) = append-rises (byte_pairs k (sources k)) (pairs_from sources (k + 1) len) (byte-rises k (sources k)) (from-rises (k + 1) len)
      (weaker (λ x. x.byte ≡ k) (λ x. AllByRecursion (λ y. pair_cmp x y ≡ Less) (pairs_from sources (k + 1) len)) (λ x e. weaker (λ y. k + 1 ≤ y.byte) (λ y. pair_cmp x y ≡ Less) (λ y low. less-byte x y (omega arith)) (pairs_from sources (k + 1) len) (from-above (k + 1) len)) (byte_pairs k (sources k)) (byte-of k (sources k)))

pub one : PairsAreOne
one sources len pairs rises are =
    same_list pairs (pairs_from sources 0 len) rises (from-rises sources 0 len) (λ p. let has = from-has sources 0 len p in let mine = are p in (
      λ c. let s = mine.0 c in has.1 (omega arith, (let h = s.0 in omega arith), s.1),
      λ c. let s = has.0 c in mine.1 ((let h = s.1 in omega arith), s.2),
    ))

pub told : PairsAreTold
told sources len = record {
  rises = from-rises sources 0 len;
  members = λ p. let has = from-has sources 0 len p in (
    λ c. let s = has.0 c in ((let h = s.1 in omega arith), s.2),
    λ s. has.1 (omega arith, (let h = s.0 in omega arith), s.1),
  );
}

-- How what waits is ordered.
use Rattle.std.proofs.Common.{◌≡◌, ◌⊎◌, ◌↔◌, ℕ, ◌+◌, ◌*◌, ◌^◌, ◌<◌, ◌≤◌, List, [], ◌∷◌, ◌++◌, Contains, refl, sym, ap, subst, ◌∙◌, inl, inr, arith, All, Ordering, Less, Equal, Greater, IfSome, IfNone}
use Rattle.std.specs.BTreeSet.{insert_key}
use Rattle.std.specs.Ordering.{nat_cmp, ordering_then, match_ordering}
use Rattle.std.proofs.lemmas.Cmp.{ranked}
use Rattle.std.proofs.Common.{Option, Some, None}
use Rattle.std.proofs.lemmas.Map.Views.{All-insert_key}
use Rattle.std.proofs.lemmas.List.Elements.{All-contains, All-cons, All-head, All-tail, Contains-push_cases, Contains-append_left, Contains-push}
use Rattle.lineage_join.specs.contracts.wait.WaitOrd.TheImpl as wait_order
use Rattle.lineage_join.specs.declared.wait.Kind.{Kind}
use Rattle.lineage_join.specs.declared.wait.Kind.TheVariants as kind
use Rattle.lineage_join.specs.declared.wait.Wait.{Wait}
use Rattle.lineage_join.specs.Waits.{HasAlso, IsNumbered, IsTaken, rank, code, room}
use Rattle.lineage_join.proofs.Rises.{none_in, front, behind, cases}

abbrev pub wait_cmp : Wait → Wait → Ordering
wait_cmp = (wait_order.ghosts).cmp

-- the order by four numbers
abbrev number_cmp : (e f k l a b x y : ℕ) → Ordering
number_cmp e f k l a b x y = ordering_then (nat_cmp e f) (ordering_then (nat_cmp k l) (ordering_then (nat_cmp a b) (nat_cmp x y)))

by-numbers : (e f a b x y : ℕ) (k l : Kind) → wait_cmp (record { event = e; kind = k; at = a; byte = x }) (record { event = f; kind = l; at = b; byte = y }) ≡ number_cmp e f (rank k) (rank l) a b x y
by-numbers e f a b x y kind.Received kind.Received = refl
by-numbers e f a b x y kind.Received kind.Byte = refl
by-numbers e f a b x y kind.Received kind.Start = refl
by-numbers e f a b x y kind.Byte kind.Received = refl
by-numbers e f a b x y kind.Byte kind.Byte = refl
by-numbers e f a b x y kind.Byte kind.Start = refl
by-numbers e f a b x y kind.Start kind.Received = refl
by-numbers e f a b x y kind.Start kind.Byte = refl
by-numbers e f a b x y kind.Start kind.Start = refl

-- what the first of two answers says
then-less : (o p : Ordering) → ordering_then o p ≡ Less → (o ≡ Less) ⊎ ((o ≡ Equal) × (p ≡ Less))
then-less Less p h = inl refl
then-less Equal p h = inr (refl, h)
then-less Greater p h = absurd (cc)

pub then-equal : (o p : Ordering) → ordering_then o p ≡ Equal → (o ≡ Equal) × (p ≡ Equal)
then-equal Equal p h = (refl, h)
then-equal _ p h = absurd (cc)

less : (n m : ℕ) → nat_cmp n m ≡ Less → n < m
less n m h = ranked n m Less (sym h)

pub equal : (n m : ℕ) → nat_cmp n m ≡ Equal → n ≡ m
equal n m h = ranked n m Equal (sym h)

code-less : (e f k l a b x y : ℕ) → k < 3 → a < 2 ^ 64 → x < 2 ^ 32 → number_cmp e f k l a b x y ≡ Less → (e * 3 + k) * 2 ^ 96 + a * 2 ^ 32 + x < (f * 3 + l) * 2 ^ 96 + b * 2 ^ 32 + y
code-less e f k l a b x y r s t h = elim (then-less (nat_cmp e f) _ h) [
  | inl p ↦ let u = less e f p in omega arith
  | inr p ↦ let u = equal e f p.0 in elim (then-less (nat_cmp k l) _ p.1) [
    | inl q ↦ let v = less k l q in omega arith
    | inr q ↦ let v = equal k l q.0 in elim (then-less (nat_cmp a b) _ q.1) [
      | inl w ↦ let z = less a b w in omega arith
      | inr w ↦ let z = equal a b w.0 in let c = less x y w.1 in omega arith
    ]
  ]
]

pub rank-small : (k : Kind) → rank k < 3
rank-small kind.Received = omega arith
rank-small _ = omega arith

pub falls : (v w : Wait) → IsNumbered v → wait_cmp v w ≡ Less → code v < code w
falls v w n h = code-less v.event w.event (rank v.kind) (rank w.kind) v.at w.at v.byte w.byte (rank-small v.kind) n.at n.byte (sym (by-numbers v.event w.event v.at w.at v.byte w.byte v.kind w.kind) ∙ h)

same-rank : (k l : Kind) → rank k ≡ rank l → k ≡ l
same-rank kind.Received kind.Received h = refl
same-rank kind.Byte kind.Byte h = refl
same-rank kind.Start kind.Start h = refl
same-rank _ _ h = absurd (omega arith)

pub ties : (v w : Wait) → wait_cmp v w ≡ Equal → v ≡ w
ties v w h =
    let p = then-equal (nat_cmp v.event w.event) _ (sym (by-numbers v.event w.event v.at w.at v.byte w.byte v.kind w.kind) ∙ h) in
    let q = then-equal (nat_cmp (rank v.kind) (rank w.kind)) _ p.1 in
    let r = then-equal (nat_cmp v.at w.at) _ q.1 in
    same (equal v.event w.event p.0) (same-rank v.kind w.kind (equal (rank v.kind) (rank w.kind) q.0)) (equal v.at w.at r.0) (equal v.byte w.byte r.1)
  where
    same : v.event ≡ w.event → v.kind ≡ w.kind → v.at ≡ w.at → v.byte ≡ w.byte → v ≡ w
    same e k a b = λ i. record { event = e i; kind = k i; at = a i; byte = b i }

-- a key that goes in is a member, and the others stay
module _ {K : Type 0} (cmp : K → K → Ordering) (tie : (x y : K) → cmp x y ≡ Equal → x ≡ y) (k : K) where
  pub inserted : (ks : List K) → HasAlso ks k (insert_key cmp ks k)
  inserted [] x = (λ c. elim (cases k [] x c) [ inl e ↦ inr e | inr d ↦ inl d ], λ s. elim s [ inl c ↦ absurd (none_in x c) | inr e ↦ subst (λ y. Contains (k ∷ []) y) e (front k []) ])
  inserted (y ∷ ks) x = by_answer (cmp k y) (tie k y) (inserted ks x)
    where
      by_answer : (o : Ordering) → (o ≡ Equal → k ≡ y) → (Contains (insert_key cmp ks k) x ↔ (Contains ks x ⊎ (k ≡ x))) → Contains (match_ordering o (k ∷ y ∷ ks) (y ∷ ks) (y ∷ insert_key cmp ks k)) x ↔ (Contains (y ∷ ks) x ⊎ (k ≡ x))
      by_answer Less same more = (λ c. elim (cases k (y ∷ ks) x c) [ inl e ↦ inr e | inr d ↦ inl d ], λ s. elim s [ inl c ↦ behind k (y ∷ ks) x c | inr e ↦ subst (λ z. Contains (k ∷ y ∷ ks) z) e (front k (y ∷ ks)) ])
      by_answer Equal same more = (λ c. inl c, λ s. elim s [ inl c ↦ c | inr e ↦ subst (λ z. Contains (y ∷ ks) z) (sym (same refl) ∙ e) (front y ks) ])
      by_answer Greater same more = (
        λ c. elim (cases y (insert_key cmp ks k) x c) [
          | inl e ↦ inl (subst (λ z. Contains (y ∷ ks) z) e (front y ks))
          | inr d ↦ elim (more.0 d) [ inl c ↦ inl (behind y ks x c) | inr e ↦ inr e ]
        ],
        λ s. elim s [
          | inl c ↦ elim (cases y ks x c) [
            | inl e ↦ subst (λ z. Contains (y ∷ insert_key cmp ks k) z) e (front y (insert_key cmp ks k))
            | inr d ↦ behind y (insert_key cmp ks k) x (more.1 (inl d))
          ]
          | inr e ↦ behind y (insert_key cmp ks k) x (more.1 (inr e))
        ],
      )

-- what waits is below its room
pub room-le : (ws : List Wait) (n : ℕ) → ((w : Wait) → Contains ws w → code w < n) → room ws ≤ n
room-le [] n h = omega arith
room-le (w ∷ ws) n h = let a = h w (front w ws) in let b = room-le ws n (λ v c. h v (behind w ws v c)) in omega arith

pub room-has : (ws : List Wait) (w : Wait) → Contains ws w → code w < room ws
room-has [] w c = absurd (none_in w c)
room-has (v ∷ ws) w c = elim (cases v ws w c) [
  | inl e ↦ let same : code v ≡ code w = ap (λ (x : Wait). code x) e in omega arith
  | inr d ↦ let more = room-has ws w d in omega arith
]

-- a set's keys, and one more
all-front : (P : Wait → Type 0) (xs ys : List Wait) → All P (xs ++ ys) → All P xs
all-front P [] ys h = λ k d low. absurd (omega arith)
all-front P (x ∷ xs) ys h = All-cons P x xs (All-head P x (xs ++ ys) h) (all-front P xs ys (All-tail P x (xs ++ ys) h))

pub numbered-after : (ks new : List Wait) (w : Wait) → new ≡ insert_key wait_cmp ks w → All IsNumbered ks → IsNumbered w → All IsNumbered new
numbered-after ks new w is all n = subst (λ (x : List Wait). All IsNumbered x) (sym is) (All-insert_key wait_cmp w IsNumbered ks all n)

pub numbered-before : (r : Option Wait) (old new : List Wait) → IfSome r (λ w. old ≡ new ++ w ∷ []) → IfNone r (new ≡ old) → All IsNumbered old → All IsNumbered new
numbered-before None old new some none all = subst (λ (x : List Wait). All IsNumbered x) (sym none) all
numbered-before (Some w) old new some none all = all-front IsNumbered new (w ∷ []) (subst (λ (x : List Wait). All IsNumbered x) some all)

taken-by : (old new : List Wait) (w : Wait) → old ≡ new ++ w ∷ [] → All (λ v. wait_cmp v w ≡ Less) new → All IsNumbered new → IsTaken old w new
taken-by old new w is less all =
    record {
      members = λ x. (
        λ c. Contains-push_cases new w x (subst (λ (l : List Wait). Contains l x) is c),
        λ s. subst (λ (l : List Wait). Contains l x) (sym is) (elim s [ inl c ↦ Contains-append_left new (w ∷ []) x c | inr e ↦ subst (λ (y : Wait). Contains (new ++ w ∷ []) y) e (Contains-push new w) ]),
      );
      below = λ v c. falls v w (All-contains IsNumbered new v all c) (All-contains (λ v. wait_cmp v w ≡ Less) new v less c);
    }

pub taken : (r : Option Wait) (old now new : List Wait) → old ≡ now → IfSome r (λ w. old ≡ new ++ w ∷ []) → IfSome r (λ w. All (λ v. wait_cmp v w ≡ Less) new) → All IsNumbered new → IfSome r (λ w. IsTaken now w new)
taken None old now new same some less all = tt
taken (Some w) old now new same some less all = subst (λ (l : List Wait). IsTaken l w new) same (taken-by old new w some less all)

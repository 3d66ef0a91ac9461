-- The bytes that went out and are reached, as they are found.
use Rattle.std.proofs.Common.{◌≡◌, ◌⊎◌, ◌↔◌, inl, inr, ℕ, ◌+◌, ◌-◌, ◌<◌, ◌≤◌, ◌==◌, ◌&&◌, ◌||◌, nat_le, nat_lt, Bool, true, false, List, [], ◌∷◌, length, take, get_or, Contains, Option, Some, None, option_map, unwrap_or, refl, ap, sym, subst, ◌∙◌, arith, true≢false, eqb-true, leb-true, ltb-true, le-leb, lt-ltb, zero-add}
use Rattle.std.specs.List.{list_any}
use Rattle.std.proofs.lemmas.Bool.{and_from, and_parts}
use Rattle.std.proofs.lemmas.List.{take_all, take_more}
use Rattle.std.proofs.lemmas.List.Elements.{Contains-append_left, Contains-push, Contains-push_cases}
use Rattle.std.proofs.lemmas.List.Folds.{Any-from_list_any, list_any_at, list_any_none}
use Rattle.arn_base.specs.declared.records.Pair.{Pair}
use Rattle.arn_base.specs.declared.records.Record.{Record}
use Rattle.acts_model.specs.Records.{event_len}
use Rattle.history_model.specs.Events.{event_at}
use Rattle.history_model.specs.Groups.{event_group, is_number}
use Rattle.lineage_join.specs.Asked.{AreAsked}
use Rattle.lineage_join.specs.Waits.{HasAlso}
use Rattle.lineage_model.specs.Flow.{Byte}
use Rattle.lineage_model.specs.Joined.{Reaching}
use Rattle.query_model.specs.Sinks.{is_among}
use Rattle.followed_pairs.specs.Demands.{byte_demands}
use Rattle.followed_pairs.specs.Sinks.{IsOutPair, IsPairAt, IsPairOf, IsTurned, TurnsOne, goes_out, is_asked}
use Rattle.followed_pairs.specs.declared.asked.Asked.{Asked}
use Rattle.followed_pairs.proofs.Taking.{none-has}
use Rattle.followed_pairs.proofs.Pairs.{asked-of, of-asked}

-- tests of lists
pub any-in : {X : Type 0} (p : X → Bool) (xs : List X) (x : X) → Contains xs x → p x ≡ true → list_any p xs ≡ true
any-in p xs x c is = list_any_at p xs c.0 x c.1 (ap p c.2 ∙ is)

pub in-any : {X : Type 0} (p : X → Bool) (xs : List X) → list_any p xs ≡ true → (x : X) × Contains xs x × (p x ≡ true)
in-any p xs h = let a = Any-from_list_any p xs h in (a.1, (a.0, a.2, a.3), a.4)

pub any-same : (p q : ℕ → Bool) (xs : List ℕ) → ((x : ℕ) → p x ≡ q x) → list_any p xs ≡ list_any q xs
any-same p q [] same = refl
any-same p q (x ∷ xs) same = ap (λ (b : Bool). b || list_any p xs) (same x) ∙ ap (λ (b : Bool). q x || b) (any-same p q xs same)

same-test : (a b : ℕ) → (a == b) ≡ (b == a)
same-test a b = grind (arith)

-- a group among some
pub among-some : (entries : List Record) (groups : List ℕ) (event g : ℕ) → Some g ≡ event_group entries event → list_any (λ h. h == g) groups ≡ is_among entries groups event
among-some entries groups event g is =
    any-same (λ h. h == g) (λ h. g == h) groups (λ h. same-test h g)
    ∙ ap (λ (o : Option ℕ). list_any (λ h. is_number h o) groups) is

pub among-none : (entries : List Record) (groups : List ℕ) (event : ℕ) → None ≡ event_group entries event → false ≡ is_among entries groups event
among-none entries groups event is =
    sym (list_any_none (λ h. is_number h None) groups (λ k d l. refl)) ∙ ap (λ (o : Option ℕ). list_any (λ h. is_number h o) groups) is

-- a pair turned round
module _ (asked : Asked) (n : ℕ) (reached : Pair) where
  pub asked-parts : is_asked asked reached ≡ true → (reached.event ≡ asked.event) × (asked.from ≤ reached.at) × (reached.at < asked.from + asked.len)
  asked-parts is =
      let first = and_parts (reached.event == asked.event) (nat_le asked.from reached.at && nat_lt reached.at (asked.from + asked.len)) is in
      let rest = and_parts (nat_le asked.from reached.at) (nat_lt reached.at (asked.from + asked.len)) first.1 in
      (eqb-true reached.event asked.event first.0, leb-true asked.from reached.at rest.0, ltb-true reached.at (asked.from + asked.len) rest.1)

  turns : (pair : Pair) → IsTurned asked n reached pair → is_asked asked reached ≡ true
  turns pair t =
      let at = t.at in let low = t.within in
      and_from (reached.event == asked.event) (nat_le asked.from reached.at && nat_lt reached.at (asked.from + asked.len)) (same-number reached.event asked.event t.event)
      (and_from (nat_le asked.from reached.at) (nat_lt reached.at (asked.from + asked.len)) (le-leb asked.from reached.at (omega arith)) (lt-ltb reached.at (asked.from + asked.len) (omega arith)))
    where
      same-number : (a b : ℕ) → a ≡ b → (a == b) ≡ true
      same-number a b e = grind (arith)

  same-pair : (x y : Pair) → x.event ≡ y.event → x.at ≡ y.at → x.byte ≡ y.byte → x ≡ y
  same-pair x y e f g = λ i. record { event = e i; at = f i; byte = g i }

  pub turned-more : (byte : ℕ) (old new : List Pair) → is_asked asked reached ≡ true → byte ≡ reached.at - asked.from → HasAlso old (record { event = n; at = reached.byte; byte = byte }) new
      → (pair : Pair) → Contains new pair ↔ (Contains old pair ⊎ IsTurned asked n reached pair)
  turned-more byte old new is place also pair =
      let parts = asked-parts is in let low = parts.1 in let high = parts.2 in (
        λ c. elim ((also pair).0 c) [
          | inl d ↦ inl d
          | inr e ↦ (let at : byte ≡ pair.byte = ap (λ (p : Pair). p.byte) e in inr (record {
            event = parts.0;
            at = omega arith;
            within = omega arith;
            sink = ap (λ (p : Pair). p.event) (sym e);
            byte = ap (λ (p : Pair). p.at) (sym e);
          }))
        ],
        λ s. (also pair).1 (elim s [
          | inl d ↦ inl d
          | inr t ↦ (let at = t.at in inr (same-pair (record { event = n; at = reached.byte; byte = byte }) pair (sym t.sink) (sym t.byte) (omega arith)))
        ]),
      )

  pub not-turned : (old : List Pair) → is_asked asked reached ≡ false → (pair : Pair) → Contains old pair ↔ (Contains old pair ⊎ IsTurned asked n reached pair)
  not-turned old isnt pair = (λ c. inl c, λ s. elim s [ inl c ↦ c | inr t ↦ absurd (true≢false (sym (turns pair t) ∙ isnt)) ])

-- several
module _ (asked : Asked) (n : ℕ) (reached : List Pair) where
  abbrev pub AddsTurned : ℕ → List Pair → List Pair → Type 0
  AddsTurned i old new = (pair : Pair) → Contains new pair ↔ (Contains old pair ⊎ TurnsOne asked n (take i reached) pair)

  pub none-added : (old : List Pair) → AddsTurned 0 old old
  none-added old pair = (λ c. inl c, λ s. elim s [ inl c ↦ c | inr t ↦ absurd (none-has t.0 t.1) ])

  pub one-added : (i : ℕ) (d : Pair) (old xs ys : List Pair) → i < length reached → AddsTurned i old xs → ((pair : Pair) → Contains ys pair ↔ (Contains xs pair ⊎ IsTurned asked n (get_or reached i d) pair)) → AddsTurned (i + 1) old ys
  one-added i d old xs ys inside are more pair =
      let taken = take_more reached i d inside in (
        λ c. elim ((more pair).0 c) [
          | inl x ↦ elim ((are pair).0 x) [
            | inl o ↦ inl o
            | inr t ↦ inr (t.0, subst (λ (ps : List Pair). Contains ps t.0) (sym taken) (Contains-append_left (take i reached) (get_or reached i d ∷ []) t.0 t.1), t.2)
          ]
          | inr t ↦ inr (get_or reached i d, subst (λ (ps : List Pair). Contains ps (get_or reached i d)) (sym taken) (Contains-push (take i reached) (get_or reached i d)), t)
        ],
        λ s. elim s [
          | inl o ↦ (more pair).1 (inl ((are pair).1 (inl o)))
          | inr t ↦ elim (Contains-push_cases (take i reached) (get_or reached i d) t.0 (subst (λ (ps : List Pair). Contains ps t.0) taken t.1)) [
            | inl before ↦ (more pair).1 (inl ((are pair).1 (inr (t.0, before, t.2))))
            | inr last ↦ (more pair).1 (inr (subst (λ (p : Pair). IsTurned asked n p pair) (sym last) t.2))
          ]
        ],
      )

  pub some-added : (i : ℕ) (old new : List Pair) → length reached ≤ i → AddsTurned i old new → (pair : Pair) → Contains new pair ↔ (Contains old pair ⊎ TurnsOne asked n reached pair)
  some-added i old new all are = subst (λ (ps : List Pair). (pair : Pair) → Contains new pair ↔ (Contains old pair ⊎ TurnsOne asked n ps pair)) (take_all i reached all) are

abbrev pub len_in : Option Record → ℕ
len_in None = 0
len_in (Some e) = event_len e

-- the bytes of one event
module _ (entries : List Record) (reach : Reaching) (asked : Asked) (n : ℕ) where
  byte-same : (k : ℕ) → reach n (Byte (0 + k)) ≡ reach n (Byte k)
  byte-same k = ap (λ (m : ℕ). reach n (Byte m)) (zero-add k)

  event-turned : (len : ℕ) (reached : List Pair) → AreAsked (event_at entries) reach (byte_demands n 0 len) reached → (pair : Pair) → TurnsOne asked n reached pair ↔ IsPairOf reach asked n len pair
  event-turned len reached are pair = (
    λ t. (
        let one = t.0 in
        let is = asked-of (event_at entries) reach n 0 len (λ k. reach n (Byte k)) (λ k l. byte-same k) one ((are one).0 t.1) in
        record {
          event = t.2.sink;
          inside = subst (λ (m : ℕ). m < len) (sym t.2.byte) is.0;
          within = t.2.within;
          reached =
              subst (λ (m : ℕ). Contains (reach n (Byte m)) (record { event = asked.event; at = Byte (asked.from + pair.byte) })) (sym t.2.byte)
              (subst (λ (e : ℕ). Contains (reach n (Byte one.byte)) (record { event = e; at = Byte (asked.from + pair.byte) })) t.2.event
              (subst (λ (m : ℕ). Contains (reach n (Byte one.byte)) (record { event = one.event; at = Byte m })) t.2.at is.1));
        }),
    λ p. (
        let one : Pair = record { event = asked.event; at = asked.from + pair.byte; byte = pair.at } in (
          one,
          (are one).1 (of-asked (event_at entries) reach n 0 len (λ k. reach n (Byte k)) (λ k l. byte-same k) one (p.inside, p.reached)),
          record { event = refl; at = refl; within = p.within; sink = p.event; byte = refl },
        )),
  )

  pub at-turned : (o : Option Record) (len : ℕ) (reached old new : List Pair) → len ≡ len_in o → AreAsked (event_at entries) reach (byte_demands n 0 len) reached → ((pair : Pair) → Contains new pair ↔ (Contains old pair ⊎ TurnsOne asked n reached pair))
      → (pair : Pair) → Contains new pair ↔ (Contains old pair ⊎ IsPairAt reach asked n o pair)
  at-turned (Some e) len reached old new is are more pair =
      let turned = event-turned (event_len e) reached (subst (λ (m : ℕ). AreAsked (event_at entries) reach (byte_demands n 0 m) reached) is are) pair in (
        λ c. elim ((more pair).0 c) [ inl d ↦ inl d | inr t ↦ inr (turned.0 t) ],
        λ s. (more pair).1 (elim s [ inl d ↦ inl d | inr p ↦ inr (turned.1 p) ]),
      )
  at-turned None len reached old new is are more pair =
      let turned = event-turned 0 reached (subst (λ (m : ℕ). AreAsked (event_at entries) reach (byte_demands n 0 m) reached) is are) pair in (
        λ c. elim ((more pair).0 c) [ inl d ↦ inl d | inr t ↦ absurd (let low = (turned.0 t).inside in omega arith) ],
        λ s. (more pair).1 (elim s [ inl d ↦ inl d | inr p ↦ absurd p ]),
      )

  -- where the event is a write of some groups to the outside
  module _ (groups : List ℕ) where
    pub out-more : (old new : List Pair) → goes_out entries groups n (event_at entries n) ≡ true → ((pair : Pair) → Contains new pair ↔ (Contains old pair ⊎ IsPairAt reach asked n (event_at entries n) pair))
        → (pair : Pair) → Contains new pair ↔ (Contains old pair ⊎ IsOutPair reach entries groups asked n pair)
    out-more old new out more pair = (
      λ c. elim ((more pair).0 c) [ inl d ↦ inl d | inr p ↦ inr (record { out = out; is = p }) ],
      λ s. (more pair).1 (elim s [ inl d ↦ inl d | inr p ↦ inr p.is ]),
    )

    pub not-out : (old : List Pair) → goes_out entries groups n (event_at entries n) ≡ false → (pair : Pair) → Contains old pair ↔ (Contains old pair ⊎ IsOutPair reach entries groups asked n pair)
    not-out old isnt pair = (λ c. inl c, λ s. elim s [ inl c ↦ c | inr p ↦ absurd (true≢false (sym p.out ∙ isnt)) ])

pub len-in-is : (o : Option Record) → unwrap_or (option_map event_len o) 0 ≡ len_in o
len-in-is None = refl
len-in-is (Some e) = refl

-- What a turn of the join does: the pairs that came still come, and what waits falls.
use Rattle.std.proofs.Common.{◌≡◌, ◌⊎◌, ◌↔◌, ℕ, ◌+◌, ◌*◌, ◌^◌, ◌<◌, ◌≤◌, List, [], map, Contains, refl, sym, ap, subst, ◌∙◌, inl, inr, arith, All}
use Rattle.std.proofs.lemmas.List.Elements.{All-contains}
use Rattle.arn_base.specs.declared.records.Pair.{Pair}
use Rattle.arn_base.specs.declared.records.Record.{Record}
use Rattle.history_model.specs.Events.{event_at}
use Rattle.lineage_model.specs.Flow.{At}
use Rattle.lineage_model.specs.Tracking.{EventByte}
use Rattle.lineage_join.specs.declared.demand.Demand.{Demand}
use Rattle.lineage_join.specs.declared.demand.Demand.TheVariants as demand
use Rattle.lineage_join.specs.declared.demand.Place.{Place}
use Rattle.lineage_join.specs.declared.demand.Place.TheVariants as place
use Rattle.lineage_join.specs.declared.wait.Wait.{Wait}
use Rattle.lineage_join.specs.Asked.{AreAsked, asked_byte, asked_sources}
use Rattle.lineage_join.specs.Laws.{reaches}
use Rattle.lineage_join.specs.Places.{at_of}
use Rattle.lineage_join.specs.Rising.{source_of}
use Rattle.lineage_join.specs.Waits.{from_kind, from_wait, LeadsTo, Leads, Comes, ComesAlso, AreFound, IsNumbered, IsTaken, IsStepped, demanded, kind_of, number_of, level, code, room}
use Rattle.lineage_join.proofs.Hits.{mapped, unmapped}
use Rattle.lineage_join.proofs.Keys.{room-le, room-has}
use Rattle.lineage_join.proofs.Rises.{none_in}

level-code : (x y a b c d : ℕ) → x < y → a < 2 ^ 64 → b < 2 ^ 32 → x * 2 ^ 96 + a * 2 ^ 32 + b < y * 2 ^ 96 + c * 2 ^ 32 + d
level-code x y a b c d h s t = omega arith

module _ (from : Wait → List EventByte) where
  taken-leads : (old mid : List Wait) (w : Wait) → IsTaken old w mid → (p : Pair) → Leads from old p ↔ (Leads from mid p ⊎ LeadsTo from w p)
  taken-leads old mid w t p = (
    λ c. elim ((t.members c.0).0 c.1) [ inl d ↦ inl (c.0, d, c.2) | inr e ↦ inr (subst (λ (v : Wait). LeadsTo from v p) (sym e) c.2) ],
    λ s. elim s [ inl c ↦ (c.0, (t.members c.0).1 (inl c.1), c.2) | inr l ↦ (w, (t.members w).1 (inr refl), l) ],
  )

  module _ (old mid new : List Wait) (w : Wait) (ps qs : List Pair) (t : IsTaken old w mid) (h : IsStepped from mid ps w new qs) where
    pub turned : (p : Pair) → Comes from new qs p ↔ Comes from old ps p
    turned p =
        let leads = taken-leads old mid w t p in
        let comes = h.comes p in (
          λ c. elim (comes.0 c) [
            | inl d ↦ elim d [ inl f ↦ inl f | inr l ↦ inr (leads.1 (inl l)) ]
            | inr l ↦ inr (leads.1 (inr l))
          ],
          λ s. elim s [
            | inl f ↦ comes.1 (inl (inl f))
            | inr l ↦ elim (leads.0 l) [ inl m ↦ comes.1 (inl (inr m)) | inr m ↦ comes.1 (inr m) ]
          ],
        )

    below : All IsNumbered new → (v : Wait) → Contains new v → code v < code w
    below all v c = elim (h.falls v c) [
      | inl d ↦ t.below v d
      | inr l ↦ let n = All-contains IsNumbered new v all c in level-code (level v) (level w) v.at v.byte w.at w.byte l n.at n.byte
    ]

    pub fallen : All IsNumbered new → room new < room old
    fallen all =
        let low : room new ≤ code w = room-le new (code w) (below all) in
        let high : code w < room old = room-has old w ((t.members w).1 (inr refl)) in omega arith

  -- nothing waits any more
  pub ended : (begun ws : List Wait) (ps found : List Pair) → ws ≡ [] → ((p : Pair) → Comes from ws found p ↔ Comes from begun ps p) → AreFound from begun ps found
  ended begun ws ps found none same p = (
    λ c. (same p).0 (inl c),
    λ s. elim ((same p).1 s) [ inl c ↦ c | inr l ↦ absurd (none_in l.0 (subst (λ (list : List Wait). Contains list l.0) none l.1)) ],
  )

module _ (entries : List Record) (items : ℕ → At → List EventByte) where
  abbrev from-all : Wait → List EventByte
  from-all = from_wait (event_at entries) (reaches entries items)

  place-from : (event : ℕ) (p : Place) → from_kind (event_at entries) (reaches entries items) event (number_of p) (kind_of p) ≡ reaches entries items event (at_of p)
  place-from event (place.Byte k) = refl
  place-from event (place.Start n) = refl

  demand-from : (d : Demand) → from-all (demanded (event_at entries) d) ≡ asked_sources (event_at entries) (reaches entries items) d
  demand-from (demand.Event event place byte) = place-from event place
  demand-from (demand.Item item byte) = refl

  demand-byte : (d : Demand) → asked_byte d ≡ (demanded (event_at entries) d).byte
  demand-byte (demand.Event event place byte) = refl
  demand-byte (demand.Item item byte) = refl

  -- what is found from what is asked for is what was asked for
  pub asked : (ds : List Demand) (ws : List Wait) (ps qs : List Pair) → ComesAlso from-all [] [] (map (demanded (event_at entries)) ds) ws ps → AreFound from-all ws ps qs → AreAsked (event_at entries) (reaches entries items) ds qs
  asked ds ws ps qs also found p = (
    λ c. elim ((also.comes p).0 ((found p).0 c)) [
      | inl d ↦ elim d [ inl x ↦ absurd (none_in p x) | inr l ↦ absurd (none_in l.0 l.1) ]
      | inr l ↦ let u = unmapped (demanded (event_at entries)) ds l.0 l.1 in (
        u.0,
        u.1,
        demand-byte u.0 ∙ (ap (λ (w : Wait). w.byte) u.2 ∙ l.2.0),
        subst (λ (bytes : List EventByte). Contains bytes (source_of p)) (sym (ap from-all u.2) ∙ demand-from u.0) l.2.1,
      )
    ],
    λ s. (found p).1 ((also.comes p).1 (inr (
      demanded (event_at entries) s.0,
      mapped (demanded (event_at entries)) ds s.0 s.1,
      (sym (demand-byte s.0) ∙ s.2, subst (λ (bytes : List EventByte). Contains bytes (source_of p)) (sym (demand-from s.0)) s.3),
    ))),
  )

  -- whatever the order
  pub same-asked : (ds : List Demand) (ps qs : List Pair) → ((p : Pair) → Contains qs p ↔ Contains ps p) → AreAsked (event_at entries) (reaches entries items) ds ps → AreAsked (event_at entries) (reaches entries items) ds qs
  same-asked ds ps qs same are p = (λ c. (are p).0 ((same p).0 c), λ s. (same p).1 ((are p).1 s))

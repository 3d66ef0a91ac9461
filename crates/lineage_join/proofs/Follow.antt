-- What waits leads to what its byte is reached by, and so does what is put in its place.
use Rattle.std.proofs.Common.{◌≡◌, ◌↔◌, ℕ, ◌+◌, ◌*◌, ◌<◌, ◌≤◌, false, List, [], ◌∷◌, map, flat_map, Contains, Option, Some, None, option_and_then, refl, sym, ap, subst, ◌∙◌, inl, inr, arith}
use Rattle.std.proofs.lemmas.List.Elements.{All-contains}
use Rattle.std.proofs.lemmas.Bool.{cond-false}
use Rattle.arn_base.specs.declared.records.Pair.{Pair}
use Rattle.arn_base.specs.declared.records.Record.{Record}
use Rattle.arn_base.specs.declared.records.Src.{Src}
use Rattle.acts_model.specs.Records.{event_len}
use Rattle.history_model.specs.Broken.{first_broken}
use Rattle.history_model.specs.Events.{event_at}
use Rattle.history_model.specs.Exchanges.{founded}
use Rattle.lineage_model.specs.Flow.{At, Byte}
use Rattle.lineage_model.specs.Joined.{Reaching, is_source, origin_of, from_origin, from_item, from_event, source_byte}
use Rattle.lineage_model.specs.Tracking.{EventByte}
use Rattle.set_store.specs.declared.item.Item.{Item}
use Rattle.taint_state.specs.Shown.{AreItems, item_of}
use Rattle.lineage_join.specs.declared.wait.Kind.TheVariants as kind
use Rattle.lineage_join.specs.declared.wait.Wait.{Wait}
use Rattle.lineage_join.specs.Fits.{IsThere, Precedes, Fits, AllFit}
use Rattle.lineage_join.specs.Laws.{reaches}
use Rattle.lineage_join.specs.Rising.{source_of}
use Rattle.lineage_join.specs.Waits.{from_taken, from_kind, from_wait, LeadsTo, Leads, kind_by, wait_of, rank, level, ComesAlso, IsStepped, origin_waits}
use Rattle.lineage_join.proofs.Comes.{instead, stepped}
use Rattle.lineage_join.proofs.Earlier.{earlier}
use Rattle.lineage_join.proofs.Hits.{mapped, unmapped}
use Rattle.lineage_join.proofs.Keys.{rank-small}
use Rattle.lineage_join.proofs.Members.{in-flat, from-flat}
use Rattle.lineage_join.proofs.Rises.{none_in, front, cases}
use Rattle.lineage_join.proofs.Stands.{item-stands, kind-of-byte}
use Rattle.lineage_join.proofs.Unfolds.{goes}

module _ (entries : List Record) (items : ℕ → At → List EventByte) (stands : first_broken entries ≡ None) (fit : AllFit entries items) where
  abbrev all : Reaching
  all = reaches entries items

  abbrev from : Wait → List EventByte
  from = from_wait (event_at entries) all

  -- the origin of a received byte
  origin-leads : (byte : ℕ) (o : Option Src) (p : Pair) → Leads from (origin_waits byte o) p ↔ ((byte ≡ p.byte) × Contains (from_origin all o) (source_of p))
  origin-leads byte None p = (λ c. absurd (none_in c.0 c.1), λ s. absurd (none_in (source_of p) s.1))
  origin-leads byte (Some src) p =
      let v : Wait = record { event = src.event; kind = kind.Byte; at = src.at; byte = byte } in (
        λ c. elim (cases v [] c.0 c.1) [
          | inl e ↦ (ap (λ (x : Wait). x.byte) e ∙ c.2.0, subst (λ (x : Wait). Contains (from x) (source_of p)) (sym e) c.2.1)
          | inr d ↦ absurd (none_in c.0 d)
        ],
        λ s. (v, front v [], s),
      )

  origin-low : (w : Wait) (o : Option Src) → ((src : Src) → o ≡ Some src → src.event < w.event) → (v : Wait) → Contains (origin_waits w.byte o) v → level v < level w
  origin-low w None h v c = absurd (none_in v c)
  origin-low w (Some src) h v c = elim (cases (record { event = src.event; kind = kind.Byte; at = src.at; byte = w.byte }) [] v c) [
    | inl e ↦ let low = h src refl in let same : src.event * 3 + 1 ≡ level v = ap (λ (x : Wait). level x) e in omega arith
    | inr d ↦ absurd (none_in v d)
  ]

  module _ (w : Wait) (e : Record) (k : w.kind ≡ kind.Received) (is : event_at entries w.event ≡ Some e) (plain : is_source e ≡ false) where
    received-leads : (p : Pair) → Leads from (origin_waits w.byte (origin_of e w.at)) p ↔ LeadsTo from w p
    received-leads p =
        let same : from w ≡ from_origin all (origin_of e w.at) =
        ap (from_kind (event_at entries) all w.event w.at) k ∙ (ap (from_taken all w.event w.at) is ∙ cond-false (is_source e) (source_byte w.event (event_len e) (Byte w.at)) (from_origin all (origin_of e w.at)) plain) in
        subst (λ (l : List EventByte). Leads from (origin_waits w.byte (origin_of e w.at)) p ↔ ((w.byte ≡ p.byte) × Contains l (source_of p))) (sym same) (origin-leads w.byte (origin_of e w.at) p)

    received-low : (v : Wait) → Contains (origin_waits w.byte (origin_of e w.at)) v → level v < level w
    received-low = origin-low w (origin_of e w.at) (λ src o. earlier entries stands w.event e is w.at src o)

    module _ (ws vs : List Wait) (ps qs : List Pair) (h : ComesAlso from ws ps (origin_waits w.byte (origin_of e w.at)) vs qs) where
      pub received-stepped : IsStepped from ws ps w vs qs
      received-stepped = stepped from ws vs ps qs (origin_waits w.byte (origin_of e w.at)) h w received-leads received-low

      pub received-also : ComesAlso from ws ps (w ∷ []) vs qs
      received-also = instead from ws vs ps qs (origin_waits w.byte (origin_of e w.at)) h w received-leads (λ v c. let low = received-low v c in omega arith)

  -- items
  abbrev waits : ℕ → Item → Wait
  waits byte = wait_of (event_at entries) byte

  place-low : (w : Wait) → 1 ≤ rank w.kind → (n : ℕ) (at : At) → IsThere (event_at entries n) at → Precedes n at w.event → n * 3 + rank (kind_by (option_and_then founded (event_at entries n))) < level w
  place-low w high n (Byte k) there low = let none : rank (kind_by (option_and_then founded (event_at entries n))) ≡ 0 = ap rank (kind-of-byte (event_at entries) all n k (event_at entries n) there) in omega arith
  place-low w high n _ there low = let small = rank-small (kind_by (option_and_then founded (event_at entries n))) in omega arith

  module _ (w : Wait) (at : At) (its : List Item) (are : AreItems its (items w.event at)) where
    -- what waits by an item is one of a byte
    of-byte : (v : Wait) → Contains (map (waits w.byte) its) v → (b : EventByte) × Contains (items w.event at) b × (waits w.byte (item_of b) ≡ v)
    of-byte v c =
        let m = unmapped (waits w.byte) its v c in
        let n = unmapped item_of (items w.event at) m.0 ((are m.0).0 m.1) in
        (n.0, n.1, ap (waits w.byte) n.2 ∙ m.2)

    fits : (b : EventByte) → Contains (items w.event at) b → Fits entries w.event b
    fits b c = All-contains (Fits entries w.event) (items w.event at) b (fit w.event at) c

    item-from : (b : EventByte) → Contains (items w.event at) b → from (waits w.byte (item_of b)) ≡ from_item (event_at entries) all b
    item-from b c = item-stands (event_at entries) all b.event b.at ((fits b c).there)

    items-low : 1 ≤ rank w.kind → (v : Wait) → Contains (map (waits w.byte) its) v → level v < level w
    items-low high v c =
        let b = of-byte v c in
        let low = place-low w high b.0.event b.0.at ((fits b.0 b.1).there) ((fits b.0 b.1).precedes) in
        let same : level (waits w.byte (item_of b.0)) ≡ level v = ap (λ (x : Wait). level x) b.2 in omega arith

    items-lead : from w ≡ flat_map (from_item (event_at entries) all) (items w.event at) → (p : Pair) → Leads from (map (waits w.byte) its) p ↔ LeadsTo from w p
    items-lead is p = (
      λ c. let b = of-byte c.0 c.1 in (
        ap (λ (x : Wait). x.byte) b.2 ∙ c.2.0,
        subst (λ (l : List EventByte). Contains l (source_of p)) (sym is)
            (in-flat (from_item (event_at entries) all) (items w.event at) b.0 (source_of p) b.1 (subst (λ (l : List EventByte). Contains l (source_of p)) (sym (ap from b.2) ∙ item-from b.0 b.1) c.2.1)),
      ),
      λ s. let g = from-flat (from_item (event_at entries) all) (items w.event at) (source_of p) (subst (λ (l : List EventByte). Contains l (source_of p)) is s.1) in (
        waits w.byte (item_of g.0),
        mapped (waits w.byte) its (item_of g.0) ((are (item_of g.0)).1 (mapped item_of (items w.event at) g.0 g.1)),
        (s.0, subst (λ (l : List EventByte). Contains l (source_of p)) (sym (item-from g.0 g.1)) g.2),
      ),
    )

    pub items-stepped : (ws vs : List Wait) (ps qs : List Pair) (e : Record) → from w ≡ all w.event at → 1 ≤ rank w.kind → event_at entries w.event ≡ Some e → is_source e ≡ false → ComesAlso from ws ps (map (waits w.byte) its) vs qs → IsStepped from ws ps w vs qs
    items-stepped ws vs ps qs e here high is plain h =
        let by : from w ≡ flat_map (from_item (event_at entries) all) (items w.event at) =
        here ∙ (goes entries items stands fit w.event at ∙ (ap (from_event (event_at entries) all w.event at (items w.event at)) is ∙ cond-false (is_source e) (source_byte w.event (event_len e) at) (flat_map (from_item (event_at entries) all) (items w.event at)) plain)) in
        stepped from ws vs ps qs (map (waits w.byte) its) h w (items-lead by) (items-low high)

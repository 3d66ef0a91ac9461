-- What reaches an event's byte by items and stored origins is what whole tracking gives it: by induction on the event's number.
use Rattle.std.proofs.Common.{◌≡◌, ℕ, zero, suc, ◌<◌, ◌≤◌, List, [], ◌∷◌, flat_map, refl, ap, ◌∙◌, sym, subst, Option, Some, None, Bool, true, false, ◌==◌, IfSome, cond, arith, ◌⊎◌, inl, inr, eqb-true}
use Rattle.std.proofs.lemmas.Bool.Decides.{nat_tests}
use Rattle.std.specs.List.{AllByRecursion}
use Rattle.rv64_model.specs.Carries.{Table}
use Rattle.arn_base.specs.declared.records.Record.{Record}
use Rattle.arn_base.specs.declared.records.Src.{Src}
use Rattle.acts_model.specs.Moved.{KernelByte, Event, Incoming, Moved}
use Rattle.acts_model.specs.Records.{event_len}
use Rattle.acts_model.specs.Transfers.{Transfer}
use Rattle.lineage_model.specs.Flow.{Location, At, Byte, Dependence, Received, flow, shown}
use Rattle.lineage_model.specs.Joined.{Reaching, is_source, origin_of, from_origin, from_received, from_item_at, from_item, source_byte, from_event, reached}
use Rattle.lineage_model.specs.Tracking.{EventByte, Tracked, gather, points_after, after, items, alone_after}
use Rattle.lineage_laws.proofs.Sets.{EachReceived, each-weaker, flat_map-same, gather-each, each-received}
use Rattle.lineage_laws.proofs.Takes.{IsByte, shown-bytes}
use Rattle.lineage_laws.proofs.Central.{every}
use Rattle.lineage_laws.proofs.Stored.{Held, next, count, Names, Linked, source_shown, FitsBy, Chain, Kept, placed, next-le, NumberIs, number-is, points-earlier, points-new}

-- an item of an earlier event, or a received byte of this one
abbrev pub IsBelow : ℕ → EventByte → Type 0
IsBelow e i = (i.event < e) ⊎ ((i.event ≡ e) × IsByte i.at)

-- the items of locations are of events below n, and those of an event's byte are below it
pub record Bounded (n : ℕ) (t : Tracked EventByte) : Type 0 where
  pub locations : (l : Location) → AllByRecursion (λ i. i.event < n) (t.locations l)
  pub points : (e : ℕ) (at : At) → AllByRecursion (IsBelow e) (t.points e at)

below-now : (n : ℕ) (t : Tracked EventByte) → Bounded n t → (l : Location) → AllByRecursion (IsBelow n) (t.locations l)
below-now n t h l = each-weaker (λ i. i.event < n) (IsBelow n) (λ i k. inl k) (t.locations l) (h.locations l)

below-next : (n : ℕ) (event : Option Event) (t : Tracked EventByte) → Bounded n t → (l : Location) → AllByRecursion (λ i. i.event < next n event) (t.locations l)
below-next n event t h l = each-weaker (λ i. i.event < n) (λ i. i.event < next n event) (λ i k. let m = next-le n event in omega arith) (t.locations l) (h.locations l)

items-next : (n : ℕ) (event : Option Event) → NumberIs n event → (at : At) → AllByRecursion (λ i. i.event < next n event) (items event at)
items-next n None h at = tt
items-next n (Some event) h at = (omega arith, tt)

byte-below : (n : ℕ) (event : Event) → event.number ≡ n → (at : At) → IsByte at → AllByRecursion (IsBelow n) (items (Some event) at)
byte-below n event h at b = (inr (h, b), tt)

points-below : (n : ℕ) (event : Option Event) (d : Transfer) (t : Tracked EventByte) → NumberIs n event → Bounded n t → (e : ℕ) (at : At) → AllByRecursion (IsBelow e) (points_after event (λ at. gather (items event) t.locations (shown d at)) t.points e at)
points-below n None d t h b e at = b.points e at
points-below n (Some event) d t h b e at = by_test (e == event.number) (eqb-true e event.number)
  where
    by_test : (x : Bool) → (x ≡ true → e ≡ event.number) → AllByRecursion (IsBelow e) (cond x (gather (items (Some event)) t.locations (shown d at)) (t.points e at))
    by_test true k =
        let all = gather-each (IsBelow n) (items (Some event)) t.locations (below-now n t b) (shown d at) (each-received IsByte (λ at. AllByRecursion (IsBelow n) (items (Some event) at)) (byte-below n event h) (shown d at) (shown-bytes d at)) in
        subst (λ (m : ℕ). AllByRecursion (IsBelow m) (gather (items (Some event)) t.locations (shown d at))) (sym (k refl ∙ h)) all
    by_test false k = b.points e at

every-received : (P : At → Type 0) → ((at : At) → P at) → (ds : List Dependence) → EachReceived P ds
every-received P h [] = tt
every-received P h (Received at ∷ ds) = (h at, every-received P h ds)
every-received P h (d ∷ ds) = (tt, every-received P h ds)

bounded-step : (table : Table) (n : ℕ) (event : Option Event) (d : Transfer) (t : Tracked EventByte) → NumberIs n event → Bounded n t → Bounded (next n event) (after table (items event) event d t)
bounded-step table n event d t h b =
    record {
      locations = λ l. gather-each (λ i. i.event < next n event) (items event) t.locations (below-next n event t b) (flow table d l) (every-received (λ at. AllByRecursion (λ i. i.event < next n event) (items event at)) (items-next n event h) (flow table d l));
      points = points-below n event d t h b;
    }

pub bounded : (table : Table) (event_at : ℕ → Option Record) (n : ℕ) (list : List Moved) (before last : Held) (t : Tracked EventByte) → Chain event_at n before list last → Bounded n t → Bounded (count n list) (every table list t)
bounded table event_at n [] before last t c h = h
bounded table event_at n (m ∷ list) before last t c h = bounded table event_at (next n m.inside.event) list c.0 last (alone_after table m.inside t) c.2 (bounded-step table n m.inside.event m.inside.transfer t (number-is event_at n before c.0 m m.inside.event c.1) h)

-- the kernel's bytes are copies of bytes of earlier events
abbrev pub AreBelow : ℕ → Held → Type 0
AreBelow n held = (byte : KernelByte) (src : Src) → held byte ≡ Some src → src.event < n

kept-below : (n : ℕ) (before later : Held) (byte : KernelByte) (src : Src) → AreBelow n before → later byte ≡ Some src → (put : Option ℕ) → Kept n before later byte put → src.event < suc n
kept-below n before later byte src h l None k = let m = h byte src (k src l) in omega arith
kept-below n before later byte src h l (Some j) k = let m = (k src l).0 in omega arith

held-below : (event_at : ℕ → Option Record) (n : ℕ) (before later : Held) (m : Moved) (event : Option Event) → FitsBy event_at n before later m event → AreBelow n before → AreBelow (next n event) later
held-below event_at n before later m None f h = λ byte src l. h byte src (sym (f.held byte) ∙ l)
held-below event_at n before later m (Some event) f h = λ byte src l. kept-below n before later byte src h l (placed m.outgoing byte) (f.kept byte)

-- the stored origins of an event are of earlier ones
abbrev pub IsEarlier : ℕ → Record → Type 0
IsEarlier n e = (k : ℕ) (src : Src) → origin_of e k ≡ Some src → src.event < n

names-earlier : (n : ℕ) (before : Held) (byte : Option KernelByte) (o : Option Src) (src : Src) → AreBelow n before → Names before byte o → o ≡ Some src → src.event < n
names-earlier n before None o src h k e = absurd (cc)
names-earlier n before (Some byte) o src h k e = h byte src (k.1 ∙ (sym k.2 ∙ e))

linked-earlier : (n : ℕ) (before : Held) (e : Record) (incoming : Incoming) → AreBelow n before → Linked before e incoming → IsEarlier n e
linked-earlier n before e incoming h1 h2 = grind (arith, nat_tests, names-earlier)

-- what is known of each event: its record, that its origins are earlier, and what its bytes have, if it is a source
pub record Known (event_at : ℕ → Option Record) (all : Tracked EventByte) (e : ℕ) : Type 0 where
  pub entry : Record
  pub there : event_at e ≡ Some entry
  pub earlier : IsEarlier e entry
  pub source : is_source entry ≡ true → (at : At) → all.points e at ≡ source_byte e (event_len entry) at

source-gathered : (event : Event) (a : Location → List EventByte) (len : ℕ) (at : At) → gather (items (Some event)) a (source_shown len at) ≡ source_byte event.number len at
source-gathered event a len at = grind (arith, nat_tests)

-- later steps leave an event's bytes
pub every-stable : (table : Table) (event_at : ℕ → Option Record) (n : ℕ) (list : List Moved) (before last : Held) (t : Tracked EventByte) → Chain event_at n before list last → (e : ℕ) (at : At) → e < n → (every table list t).points e at ≡ t.points e at
every-stable table event_at n [] before last t c e at l = refl
every-stable table event_at n (m ∷ list) before last t c e at l =
    let k = next-le n m.inside.event in
    every-stable table event_at (next n m.inside.event) list c.0 last (alone_after table m.inside t) c.2 e at (omega arith)
    ∙ points-earlier n m.inside.event _ t.points e at (number-is event_at n before c.0 m m.inside.event c.1) l

-- an event is the step's own, or a later one
pub this_or_later : (n : ℕ) (event : Option Event) (e : ℕ) → n ≤ e → ((x : Event) × (event ≡ Some x) × (e ≡ n)) ⊎ (next n event ≤ e)
this_or_later n None e h = inr h
this_or_later n (Some event) e h = by_test (e == n) (eqb-true e n) refl
  where
    by_test : (b : Bool) → (b ≡ true → e ≡ n) → (e == n) ≡ b → ((x : Event) × (Some event ≡ Some x) × (e ≡ n)) ⊎ (suc n ≤ e)
    by_test true k f = inl (event, refl, k refl)
    by_test false k f = inr (grind arith)

known-here : (table : Table) (event_at : ℕ → Option Record) (n : ℕ) (m : Moved) (list : List Moved) (before last : Held) (t : Tracked EventByte) → (c : Chain event_at n before (m ∷ list) last) → AreBelow n before → (event : Event) → m.inside.event ≡ Some event → Known event_at (every table (m ∷ list) t) n
known-here table event_at n m list before last t c h event is =
    let f = subst (λ (x : Option Event). FitsBy event_at n before c.0 m x) is c.1 in
    let number = f.number in
    let later : n < next n m.inside.event = subst (λ (x : Option Event). n < next n x) (sym is) (omega arith) in
    record {
      entry = event.entry;
      there = ap event_at (sym number) ∙ f.there;
      earlier = linked-earlier n before event.entry m.incoming h f.linked;
      source = λ s at.
          every-stable table event_at (next n m.inside.event) list c.0 last (alone_after table m.inside t) c.2 n at later
          ∙ (ap (λ (x : Option Event). points_after x (λ at. gather (items x) t.locations (shown m.inside.transfer at)) t.points n at) is
          ∙ (ap (λ (e : ℕ). points_after (Some event) (λ at. gather (items (Some event)) t.locations (shown m.inside.transfer at)) t.points e at) (sym number)
          ∙ (points-new event (λ at. gather (items (Some event)) t.locations (shown m.inside.transfer at)) t.points at
          ∙ (ap (gather (items (Some event)) t.locations) (f.source s at)
          ∙ (source-gathered event t.locations (event_len event.entry) at
          ∙ ap (λ (e : ℕ). source_byte e (event_len event.entry) at) number)))));
    }

pub known : (table : Table) (event_at : ℕ → Option Record) (n : ℕ) (list : List Moved) (before last : Held) (t : Tracked EventByte) → Chain event_at n before list last → AreBelow n before → (e : ℕ) → n ≤ e → e < count n list → Known event_at (every table list t) e
known table event_at n [] before last t c h e l g = absurd (omega arith)
known table event_at n (m ∷ list) before last t c h e l g = elim (this_or_later n m.inside.event e l) [
  | inl k ↦ subst (Known event_at (every table (m ∷ list) t)) (sym k.2) (known-here table event_at n m list before last t c h k.0 k.1)
  | inr k ↦ known table event_at (next n m.inside.event) list c.0 last (alone_after table m.inside t) c.2 (held-below event_at n before c.0 m m.inside.event c.1 h) e k g
]

-- an item's sources need those of the bytes of earlier events alone
origin-same : (e : ℕ) (p q : Reaching) → ((x : ℕ) (at : At) → x < e → p x at ≡ q x at) → (o : Option Src) → ((src : Src) → o ≡ Some src → src.event < e) → from_origin p o ≡ from_origin q o
origin-same e p q h None k = refl
origin-same e p q h (Some src) k = h src.event (Byte src.at) (k src refl)

received-same : (e d k : ℕ) (p q : Reaching) → d ≤ e → ((x : ℕ) (at : At) → x < e → p x at ≡ q x at) → (o : Option Record) → IfSome o (IsEarlier d) → from_received p d k o ≡ from_received q d k o
received-same e d k p q l h None i = refl
received-same e d k p q l h (Some entry) i = ap (λ (xs : List EventByte). cond (is_source entry) (record { event = d; at = Byte k } ∷ []) xs) (origin-same e p q h (origin_of entry k) (λ src o. let m = i k src o in omega arith))

item-same : (event_at : ℕ → Option Record) (e : ℕ) (p q : Reaching) → ((x : ℕ) (at : At) → x < e → p x at ≡ q x at) → (d : ℕ) (at : At) → (d < e) ⊎ ((d ≡ e) × IsByte at) → IfSome (event_at d) (IsEarlier d) → from_item_at event_at p d at ≡ from_item_at event_at q d at
item-same event_at e p q h1 d at h2 h3 = grind (arith, nat_tests, received-same)

known-earlier : (event_at : ℕ → Option Record) (all : Tracked EventByte) (e : ℕ) → Known event_at all e → IfSome (event_at e) (IsEarlier e)
known-earlier event_at all e k = subst (λ (o : Option Record). IfSome o (IsEarlier e)) (sym k.there) k.earlier

-- a source byte stands for itself
source-value : (event_at : ℕ → Option Record) (final : Reaching) (e : ℕ) (entry : Record) → event_at e ≡ Some entry → is_source entry ≡ true → (len : ℕ) (at : At) → flat_map (from_item event_at final) (source_byte e len at) ≡ source_byte e len at
source-value event_at final e entry h1 h2 len at = grind (arith, nat_tests)

-- whole tracking is what v makes of items
abbrev pub ArePoints : (ℕ → Option Record) → Reaching → Tracked EventByte → Type 0
ArePoints event_at final all = (e : ℕ) (at : At) → final e at ≡ flat_map (from_item event_at final) (all.points e at)

-- the items that an event has in its group are those in the tracking of all
abbrev pub AreItems : (ℕ → Option Record) → (ℕ → At → List EventByte) → Tracked EventByte → ℕ → Type 0
AreItems event_at found all m = (e : ℕ) (at : At) → e < m → (entry : Record) → event_at e ≡ Some entry → is_source entry ≡ false → found e at ≡ all.points e at

reached-here : (event_at : ℕ → Option Record) (found : ℕ → At → List EventByte) (m : ℕ) (final : Reaching) (all : Tracked EventByte) → ArePoints event_at final all → Bounded m all → ((e : ℕ) → e < m → Known event_at all e) → AreItems event_at found all m → (p : Reaching) (e : ℕ) (at : At) → e < m → ((x : ℕ) (at : At) → x < e → p x at ≡ final x at) → from_event event_at p e at (found e at) (event_at e) ≡ final e at
reached-here event_at found m final all points b known items p e at l h =
    let k = known e l in
    ap (from_event event_at p e at (found e at)) k.there ∙ by_source k (is_source k.entry) refl
  where
    by_source : (k : Known event_at all e) → (s : Bool) → is_source k.entry ≡ s → cond s (source_byte e (event_len k.entry) at) (flat_map (from_item event_at p) (found e at)) ≡ final e at
    by_source k true s =
        sym (source-value event_at final e k.entry k.there s (event_len k.entry) at)
        ∙ (ap (flat_map (from_item event_at final)) (sym (k.source s at)) ∙ sym (points e at))
    by_source k false s =
        let same = each-weaker (IsBelow e) (λ i. from_item event_at p i ≡ from_item event_at final i)
        (λ i below. item-same event_at e p final h i.event i.at below (known-earlier event_at all i.event (known i.event (before i below)))) (all.points e at) (b.points e at) in
        ap (flat_map (from_item event_at p)) (items e at l k.entry k.there s)
        ∙ (flat_map-same (from_item event_at p) (from_item event_at final) (all.points e at) same ∙ sym (points e at))
      where
        before : (i : EventByte) → IsBelow e i → i.event < m
        before i (inl x) = omega arith
        before i (inr x) = let y = x.0 in omega arith

-- the sources by items and stored origins are those of whole tracking, event by event
pub reached-whole : (event_at : ℕ → Option Record) (found : ℕ → At → List EventByte) (m : ℕ) (final : Reaching) (all : Tracked EventByte) → ArePoints event_at final all → Bounded m all → ((e : ℕ) → e < m → Known event_at all e) → AreItems event_at found all m → (n e : ℕ) (at : At) → e < n → e < m → reached event_at found n e at ≡ final e at
reached-whole event_at found m final all points b known items zero e at k l = absurd (omega arith)
reached-whole event_at found m final all points b known items (suc n) e at k l =
    reached-here event_at found m final all points b known items (reached event_at found n) e at l
    (λ x at g. reached-whole event_at found m final all points b known items n x at (omega arith) (omega arith))

-- and so for what a location has
pub location-whole : (event_at : ℕ → Option Record) (m : ℕ) (p final : Reaching) (all : Tracked EventByte) → ((x : ℕ) (at : At) → x < m → p x at ≡ final x at) → ((e : ℕ) → e < m → Known event_at all e) → (xs : List EventByte) → AllByRecursion (λ i. i.event < m) xs → flat_map (from_item event_at p) xs ≡ flat_map (from_item event_at final) xs
location-whole event_at m p final all h known xs b =
    flat_map-same (from_item event_at p) (from_item event_at final) xs
    (each-weaker (λ i. i.event < m) (λ i. from_item event_at p i ≡ from_item event_at final i)
    (λ i l. item-same event_at m p final h i.event i.at (inl l) (known-earlier event_at all i.event (known i.event l))) xs b)

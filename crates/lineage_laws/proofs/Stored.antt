-- What stored origins name: at each moment each byte of the kernel has the set of the event byte that it is a copy of, and no later step
-- changes that byte's set.
use Rattle.std.proofs.Common.{◌≡◌, ℕ, suc, ◌<◌, ◌≤◌, List, [], ◌∷◌, flat_map, refl, ap, ap₂, ◌∙◌, sym, subst, append-nil, Option, Some, None, Bool, true, false, IsTrue, cond, arith, ne_eqb, eq-eqb}
use Rattle.std.proofs.lemmas.Bool.Decides.{nat_tests}
use Rattle.rv64_model.specs.Carries.{Table}
use Rattle.arn_base.specs.declared.records.Record.{Record}
use Rattle.arn_base.specs.declared.records.Src.{Src}
use Rattle.acts_model.specs.Moved.{KernelByte, Range, byte_of, place_in, Event, Incoming, Outside, Nothing, From, Moved, is_plain}
use Rattle.acts_model.specs.Records.{event_len}
use Rattle.acts_model.specs.Transfers.{Transfer, Runs}
use Rattle.lineage_model.specs.Flow.{At, Byte, Dependence, shown, received_byte, if_below}
use Rattle.lineage_model.specs.Joined.{Reaching, is_source, origin_of, from_origin, from_received, from_item_at, from_item}
use Rattle.lineage_model.specs.Tracking.{EventByte, gather, points_after, after, items}
use Rattle.lineage_model.specs.Whole.{Whole, set_of, received, given, kernel_set, kernel_after, whole_after, whole_from}
use Rattle.lineage_laws.proofs.Sets.{gather-received}
use Rattle.lineage_laws.proofs.Takes.{Takes, shown-prior}
use Rattle.lineage_laws.proofs.Central.{IsValue}

-- the event byte of which each byte of the kernel is a copy
abbrev pub Held : Type 0
Held = KernelByte → Option Src

-- how many events there are after a step, and after steps
abbrev pub next : ℕ → Option Event → ℕ
next n None = n
next n (Some event) = suc n

abbrev pub count : ℕ → List Moved → ℕ
count n [] = n
count n (m ∷ list) = count (next n m.inside.event) list

-- the stored origin of a received byte is that of the kernel's byte
abbrev pub Names : Held → Option KernelByte → Option Src → Type 0
Names before None o = o ≡ None
Names before (Some byte) o = (src : Src) × (before byte ≡ Some src) × (o ≡ Some src)

abbrev pub Linked : Held → Record → Incoming → Type 0
Linked before e (From range) = (k : ℕ) → Names before (byte_of range k) (origin_of e k)
Linked before e _ = (k : ℕ) → origin_of e k ≡ None

-- a received byte is a source byte exactly where it comes from outside
abbrev pub IsSourced : Incoming → Record → At → Type 0
IsSourced Outside e (Byte k) = is_source e ≡ true
IsSourced Nothing e (Byte k) = ⊥
IsSourced (From range) e (Byte k) = is_source e ≡ false
IsSourced incoming e other = Unit {0}

-- what the kernel holds after an event was put there, or was held before
abbrev pub Kept : ℕ → Held → Held → KernelByte → Option ℕ → Type 0
Kept n before later byte None = (src : Src) → later byte ≡ Some src → before byte ≡ Some src
Kept n before later byte (Some k) = (src : Src) → later byte ≡ Some src → (src.event ≡ n) × (src.at ≡ k)

abbrev pub placed : Option Range → KernelByte → Option ℕ
placed None byte = None
placed (Some range) byte = place_in range byte

-- what the bytes of a source take
abbrev pub source_shown : ℕ → At → List Dependence
source_shown len (Byte k) = if_below k len (received_byte k)
source_shown len other = []

-- what the lemmas need of a step that is event n
pub record EventFits (event_at : ℕ → Option Record) (n : ℕ) (before later : Held) (m : Moved) (event : Event) : Type 0 where
  pub number : event.number ≡ n
  pub there : event_at event.number ≡ Some event.entry
  pub linked : Linked before event.entry m.incoming
  pub takes : Takes (IsSourced m.incoming event.entry) m.inside.transfer
  pub source : is_source event.entry ≡ true → (at : At) → shown m.inside.transfer at ≡ source_shown (event_len event.entry) at
  pub kept : (byte : KernelByte) → Kept n before later byte (placed m.outgoing byte)

-- and of an instruction
pub record PlainFits (before later : Held) (m : Moved) : Type 0 where
  pub plain : IsTrue (is_plain m.inside.transfer)
  pub held : (byte : KernelByte) → later byte ≡ before byte

abbrev pub FitsBy : (ℕ → Option Record) → ℕ → Held → Held → Moved → Option Event → Type 0
FitsBy event_at n before later m None = PlainFits before later m
FitsBy event_at n before later m (Some event) = EventFits event_at n before later m event

-- steps from event n on, with what the kernel holds before them and in the end
abbrev pub Chain : (ℕ → Option Record) → ℕ → Held → List Moved → Held → Type 0
Chain event_at n before [] last = (byte : KernelByte) → last byte ≡ before byte
Chain event_at n before (m ∷ list) last =
    (later : Held) × FitsBy event_at n before later m m.inside.event × Chain event_at (next n m.inside.event) later list last

pub next-le : (n : ℕ) (event : Option Event) → n ≤ next n event
next-le n None = omega arith
next-le n (Some event) = omega arith

-- the event has the next number
abbrev pub NumberIs : ℕ → Option Event → Type 0
NumberIs n None = Unit {0}
NumberIs n (Some event) = event.number ≡ n

pub number-is : (event_at : ℕ → Option Record) (n : ℕ) (before later : Held) (m : Moved) (event : Option Event) → FitsBy event_at n before later m event → NumberIs n event
number-is event_at n before later m None f = tt
number-is event_at n before later m (Some event) f = f.number

-- a step leaves the bytes of earlier events
pub points-earlier : (n : ℕ) (event : Option Event) (x : At → List EventByte) (p : ℕ → At → List EventByte) (e : ℕ) (at : At) → NumberIs n event → e < n → points_after event x p e at ≡ p e at
points-earlier n None x p e at h l = refl
points-earlier n (Some event) x p e at h l = ap (λ (b : Bool). cond b (x at) (p e at)) (ne_eqb e event.number (λ k. omega arith))

-- an event's own bytes
pub points-new : (event : Event) (x : At → List EventByte) (p : ℕ → At → List EventByte) (at : At) → points_after (Some event) x p event.number at ≡ x at
points-new event x p at = ap (λ (b : Bool). cond b (x at) (p event.number at)) (eq-eqb event.number event.number refl)

-- and so do all later steps
pub stable : (table : Table) (event_at : ℕ → Option Record) (n : ℕ) (before last : Held) (list : List Moved) (w : Whole) → Chain event_at n before list last → (e : ℕ) (at : At) → e < n → (whole_from table list w).tracked.points e at ≡ w.tracked.points e at
stable table event_at n before last [] w h e at l = refl
stable table event_at n before last (m ∷ list) w h e at l =
    let k = next-le n m.inside.event in
    stable table event_at (next n m.inside.event) h.0 last list (whole_after table m w) h.2 e at (omega arith)
    ∙ points-earlier n m.inside.event _ w.tracked.points e at (number-is event_at n before h.0 m m.inside.event h.1) l

-- each byte of the kernel has the set of the event byte that it is a copy of, which is of an earlier event
pub record HasOrigin (n : ℕ) (w : Whole) (byte : KernelByte) (src : Src) : Type 0 where
  pub set : w.kernel byte ≡ w.tracked.points src.event (Byte src.at)
  pub below : src.event < n

abbrev pub IsKept : ℕ → Whole → Held → Type 0
IsKept n w held = (byte : KernelByte) (src : Src) → held byte ≡ Some src → HasOrigin n w byte src

-- one step keeps it
kept-same : (table : Table) (n : ℕ) (event : Option Event) (d : Transfer) (i : At → List EventByte) (w : Whole) (byte : KernelByte) (src : Src) → NumberIs n event → HasOrigin n w byte src → (w.kernel byte ≡ (after table i event d w.tracked).points src.event (Byte src.at)) × (src.event < next n event)
kept-same table n event d i w byte src h1 h2 = grind (arith, nat_tests, next-le, points-earlier)

put-kept : (table : Table) (n : ℕ) (event : Event) (d : Transfer) (i : At → List EventByte) (w : Whole) (before later : Held) (byte : KernelByte) (src : Src) → event.number ≡ n → IsKept n w before → later byte ≡ Some src → (put : Option ℕ) → Kept n before later byte put → (kernel_set (w.kernel byte) (λ k. (after table i (Some event) d w.tracked).points event.number (Byte k)) put ≡ (after table i (Some event) d w.tracked).points src.event (Byte src.at)) × (src.event < suc n)
put-kept table n event d i w before later byte src e h l None k = kept-same table n (Some event) d i w byte src e (h byte src (k src l))
put-kept table n event d i w before later byte src e h l (Some j) k =
    let here = k src l in
    let first = here.0 in
    (ap₂ (λ (a b : ℕ). (after table i (Some event) d w.tracked).points a (Byte b)) (e ∙ sym here.0) (sym here.1), omega arith)

out-kept : (table : Table) (n : ℕ) (event : Event) (d : Transfer) (i : At → List EventByte) (w : Whole) (before later : Held) (byte : KernelByte) (src : Src) → event.number ≡ n → IsKept n w before → later byte ≡ Some src → (outgoing : Option Range) → Kept n before later byte (placed outgoing byte) → (kernel_after (Some event) outgoing (after table i (Some event) d w.tracked).points w.kernel byte ≡ (after table i (Some event) d w.tracked).points src.event (Byte src.at)) × (src.event < suc n)
out-kept table n event d i w before later byte src e h l None k = put-kept table n event d i w before later byte src e h l None k
out-kept table n event d i w before later byte src e h l (Some range) k = put-kept table n event d i w before later byte src e h l (place_in range byte) k

event-kept : (table : Table) (event_at : ℕ → Option Record) (n : ℕ) (m : Moved) (i : At → List EventByte) (w : Whole) (before later : Held) → IsKept n w before → (byte : KernelByte) (src : Src) → later byte ≡ Some src → (event : Option Event) → FitsBy event_at n before later m event → (kernel_after event m.outgoing (after table i event m.inside.transfer w.tracked).points w.kernel byte ≡ (after table i event m.inside.transfer w.tracked).points src.event (Byte src.at)) × (src.event < next n event)
event-kept table event_at n m i w before later h byte src l None f = kept-same table n None m.inside.transfer i w byte src tt (h byte src (sym (f.held byte) ∙ l))
event-kept table event_at n m i w before later h byte src l (Some event) f = out-kept table n event m.inside.transfer i w before later byte src f.number h l m.outgoing (f.kept byte)

pub kept : (table : Table) (event_at : ℕ → Option Record) (n : ℕ) (m : Moved) (w : Whole) (before later : Held) → FitsBy event_at n before later m m.inside.event → IsKept n w before → IsKept (next n m.inside.event) (whole_after table m w) later
kept table event_at n m w before later f h byte src l =
    let both = event-kept table event_at n m (given m w) w before later h byte src l m.inside.event f in
    record { set = both.0; below = both.1 }

-- in the end it is so
pub kept-all : (table : Table) (event_at : ℕ → Option Record) (n : ℕ) (list : List Moved) (w : Whole) (before last : Held) → Chain event_at n before list last → IsKept n w before → IsKept (count n list) (whole_from table list w) last
kept-all table event_at n [] w before last c h = λ byte src l. h byte src (sym (c byte) ∙ l)
kept-all table event_at n (m ∷ list) w before last c h = kept-all table event_at (next n m.inside.event) list (whole_after table m w) c.0 last c.2 (kept table event_at n m w before c.0 c.1 h)

pub takes-weaker : (P Q : At → Type 0) → ((at : At) → P at → Q at) → (t : Transfer) → Takes P t → Takes Q t
takes-weaker P Q h1 t h2 = grind (arith, nat_tests)

pub plain-takes : (P : At → Type 0) (t : Transfer) → IsTrue (is_plain t) → Takes P t
plain-takes P (Runs pid instr place) h = tt
plain-takes P _ h = absurd (cc)

-- a received byte has the set of the byte that its origin names
linked-value : (n : ℕ) (w : Whole) (before : Held) (final : Reaching) → IsKept n w before → ((e : ℕ) (at : At) → e < n → final e at ≡ w.tracked.points e at) → (byte : Option KernelByte) (o : Option Src) → Names before byte o → set_of w.kernel byte ≡ from_origin final o
linked-value n w before final h st None o k = ap (from_origin final) (sym k)
linked-value n w before final h st (Some byte) o k =
    let origin = h byte k.0 k.1 in
    origin.set ∙ (sym (st k.0.event (Byte k.0.at) origin.below) ∙ ap (from_origin final) (sym k.2))

received-value : (n : ℕ) (w : Whole) (before : Held) (final : Reaching) (event : Event) → IsKept n w before → ((e : ℕ) (at : At) → e < n → final e at ≡ w.tracked.points e at) → (k : ℕ) (incoming : Incoming) → Linked before event.entry incoming → IsSourced incoming event.entry (Byte k) → received (Some event) incoming w.kernel k ≡ from_received final event.number k (Some event.entry)
received-value n w before final event h st k Outside link s = ap (λ (b : Bool). cond b (record { event = event.number; at = Byte k } ∷ []) (from_origin final (origin_of event.entry k))) (sym s)
received-value n w before final event h st k Nothing link s = absurd s
received-value n w before final event h st k (From range) link s =
    linked-value n w before final h st (byte_of range k) (origin_of event.entry k) (link k)
    ∙ ap (λ (b : Bool). cond b (record { event = event.number; at = Byte k } ∷ []) (from_origin final (origin_of event.entry k))) (sym s)

-- so the set of an input byte is that of its item
value-at : (event_at : ℕ → Option Record) (n : ℕ) (m : Moved) (w : Whole) (before : Held) (final : Reaching) (event : Event) → m.inside.event ≡ Some event → IsKept n w before → event_at event.number ≡ Some event.entry → ((e : ℕ) (at : At) → e < n → final e at ≡ w.tracked.points e at) → ((at : At) → final event.number at ≡ gather (given m w) w.tracked.locations (shown m.inside.transfer at)) → Linked before event.entry m.incoming → (at : At) → IsSourced m.incoming event.entry at → given m w at ≡ from_item_at event_at final event.number at
value-at event_at n m w before final event is h there st new link (Byte k) s =
    ap (λ (x : Option Event). received x m.incoming w.kernel k) is
    ∙ (received-value n w before final event h st k m.incoming link s
    ∙ ap (from_received final event.number k) (sym there))
value-at event_at n m w before final event is h there st new link e s = gather-received _ _ w.tracked.locations (shown m.inside.transfer e) (shown-prior _ m.inside.transfer e tt) ∙ sym (new e)

-- what the final points are of a step's own event
step-value : (table : Table) (event_at : ℕ → Option Record) (n : ℕ) (m : Moved) (list : List Moved) (w : Whole) (before last : Held) → (c : Chain event_at n before (m ∷ list) last) → IsKept n w before → (event : Option Event) → m.inside.event ≡ event → FitsBy event_at n before c.0 m event → Takes (λ at. given m w at ≡ flat_map (from_item event_at (whole_from table (m ∷ list) w).tracked.points) (items event at)) m.inside.transfer
step-value table event_at n m list w before last c h None is f = plain-takes (λ at. given m w at ≡ flat_map (from_item event_at (whole_from table (m ∷ list) w).tracked.points) (items None at)) m.inside.transfer f.plain
step-value table event_at n m list w before last c h (Some event) is f =
    let final = (whole_from table (m ∷ list) w).tracked.points in
    let number = f.number in
    let later : event.number < next n m.inside.event = subst (λ (x : Option Event). event.number < next n x) (sym is) (omega arith) in
    let new : (at : At) → final event.number at ≡ gather (given m w) w.tracked.locations (shown m.inside.transfer at) =
    λ at. stable table event_at (next n m.inside.event) c.0 last list (whole_after table m w) c.2 event.number at later
    ∙ (ap (λ (x : Option Event). points_after x (λ at. gather (given m w) w.tracked.locations (shown m.inside.transfer at)) w.tracked.points event.number at) is
    ∙ points-new event (λ at. gather (given m w) w.tracked.locations (shown m.inside.transfer at)) w.tracked.points at) in
    takes-weaker (IsSourced m.incoming event.entry) (λ at. given m w at ≡ flat_map (from_item event_at final) (items (Some event) at))
    (λ at s. value-at event_at n m w before final event is h f.there (stable table event_at n before last (m ∷ list) w c) new f.linked at s ∙ sym (append-nil _))
    m.inside.transfer f.takes

-- what stored origins name is the value of each item
pub is_value : (table : Table) (event_at : ℕ → Option Record) (n : ℕ) (list : List Moved) (w : Whole) (before last : Held) → Chain event_at n before list last → IsKept n w before → IsValue table (from_item event_at (whole_from table list w).tracked.points) w list
is_value table event_at n [] w before last c h = tt
is_value table event_at n (m ∷ list) w before last c h = (
  step-value table event_at n m list w before last c h m.inside.event refl c.1,
  is_value table event_at (next n m.inside.event) list (whole_after table m w) c.0 last c.2 (kept table event_at n m w before c.0 c.1 h),
)

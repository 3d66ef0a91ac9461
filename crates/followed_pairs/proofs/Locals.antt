-- What a tracker tells of a byte that an event has.
use Rattle.std.proofs.Common.{◌≡◌, ℕ, ◌+◌, ◌-◌, ◌/◌, ◌%◌, ◌<◌, ◌≤◌, ◌&&◌, nat_lt, Bool, true, false, List, [], Option, Some, None, IfSome, is_some, option_map, option_and_then, unwrap_or, if◌then◌else◌, refl, sym, ap, subst, ◌∙◌, arith, ltb-false, ltb-true, lt-ltb}
use Rattle.arn_base.specs.declared.records.Record.{Record}
use Rattle.acts_model.specs.Records.{event_len}
use Rattle.acts_model.specs.Transfers.{is_private}
use Rattle.set_store.specs.declared.item.Item.{Item}
use Rattle.history_model.specs.Exchanges.{founded}
use Rattle.lineage_join.specs.declared.demand.Place.{Place}
use Rattle.lineage_join.specs.declared.demand.Place.TheVariants as place
use Rattle.lineage_join.specs.Places.{at_of, start_at}
use Rattle.lineage_model.specs.Flow.{At, Byte, StartRegister, StartSlot, StartMemory}
use Rattle.lineage_model.specs.Tracking.{EventByte, Tracked}
use Rattle.history_model.specs.Alone.{Made}
use Rattle.history_model.specs.Events.{event_at}
use Rattle.history_model.specs.Groups.{event_group}
use Rattle.rv64_model.specs.Carries.{Table, operands}
use Rattle.lineage_model.specs.Tracking.{alone}
use Rattle.query_model.specs.Sources.{tracked_of}
use Rattle.taint_laws.specs.Follows.{heard_from, none_heard}
use Rattle.taint_laws.specs.Laws.{HearsEvents, IsHeard, IsHearingOf, ShowsNothing, UnheardHaveNone}
use Rattle.taint_state.specs.Kept.{Kept, shown}
use Rattle.taint_state.specs.Asked as asked
use Rattle.taint_state.specs.Asked.{answer, event_answer, start_answer, where_true}
use Rattle.taint_state.specs.Goes.{Hearing, hearing_of, hearings_of}
use Rattle.taint_state.specs.Shown.{AreItems, Heard, IsRegisterByte, Shows, ShowsHeard, Tracking}
use Rattle.taint_state.specs.declared.point.Point.{Point}
use Rattle.taint_state.specs.declared.point.Point.TheVariants as point
use Rattle.followed_groups.specs.Following.{Following, IsFollowing, has_byte, is_register_byte, is_there, items_by, items_followed, items_kept, told_by, told_of, tracker_of}
use Rattle.followed_groups.specs.Follows.{Follows}
use Rattle.followed_pairs.specs.Locals.{point_at, point_of}

some-same : (p q : Point) → Some p ≡ Some q → p ≡ q
some-same p q e = cc

-- none of none
pub no-items : AreItems [] []
no-items item = (λ c. c, λ c. c)

abbrev Held : Record → At → List EventByte → List EventByte
Held e at bytes = if has_byte e at then bytes else []

-- nor where there is no byte
either-none : (b : Bool) (bytes : List EventByte) → bytes ≡ [] → AreItems [] (if b then bytes else [])
either-none b bytes h = subst (λ (list : List EventByte). AreItems [] (if b then list else [])) (sym h) (by_test b)
  where
    by_test : (x : Bool) → AreItems [] (if x then [] else [])
    by_test true = no-items
    by_test false = no-items

-- a number of a register's byte
register-at : (n : ℕ) → n < 248 → IsRegisterByte (n / 8 + 1) (n % 8)
register-at n h = record { above = omega arith; below = omega arith; byte = omega arith }

pub is-register : (r i : ℕ) → IsRegisterByte r i → is_register_byte r i ≡ true
is-register r i b = by_tests (nat_lt 0 r) (nat_lt r 32) (nat_lt i 8) (lt-ltb 0 r b.above) (lt-ltb r 32 b.below) (lt-ltb i 8 b.byte)
  where
    by_tests : (x y z : Bool) → x ≡ true → y ≡ true → z ≡ true → (x && (y && z)) ≡ true
    by_tests true true true h k l = refl
    by_tests false y z h k l = absurd (cc)
    by_tests true false z h k l = absurd (cc)
    by_tests true true false h k l = absurd (cc)

module _ (e : Record) (event : ℕ) (t : Tracked EventByte) where
  abbrev Told : Option (List Item) → At → Type 0
  Told told at = AreItems (unwrap_or told []) (Held e at (t.points event at))

  shown-there : (h : Heard) (at : At) → has_byte e at ≡ true → AreItems (h.points at) (t.points event at) → Told (Some (h.points at)) at
  shown-there h at has are = subst (λ (b : Bool). AreItems (h.points at) (if b then t.points event at else [])) (sym has) are

  not-there : (at : At) → has_byte e at ≡ false → Told None at
  not-there at has = subst (λ (b : Bool). AreItems [] (if b then t.points event at else [])) (sym has) no-items

  -- a byte of the event
  byte-told : (h : Heard) (k : ℕ) → h.len ≡ event_len e → nat_lt k (event_len e) ≡ true → ShowsHeard event t h → Told (event_answer k h) (Byte k)
  byte-told h k len below shows =
      let within : nat_lt k h.len ≡ true = ap (nat_lt k) len ∙ below in
      subst (λ (b : Bool). Told (if b then Some (h.points (Byte k)) else None) (Byte k)) (sym within)
      (shown-there h (Byte k) below (shows (Byte k) (ltb-true k h.len within)))

  -- a byte with which a child began
  founding-told : (h : Heard) (n : ℕ) → h.founds ≡ true → is_some (founded e) ≡ true → ShowsHeard event t h → Told (option_map h.points (asked.start_at n)) (start_at n)
  founding-told h n founds founded_is shows = by_register (nat_lt n 248) refl
    where
      there : (at : At) (b : Bool) → b ≡ true → (is_some (founded e) && b) ≡ true
      there at b k = subst (λ (x : Bool). (x && b) ≡ true) (sym founded_is) k

      by_private : (b : Bool) → is_private n ≡ b → Told (option_map h.points (where_true b (StartMemory n))) (StartMemory n)
      by_private true p = shown-there h (StartMemory n) (there (StartMemory n) (is_private n) p) (shows (StartMemory n) (founds, p))
      by_private false p = not-there (StartMemory n) (subst (λ (x : Bool). (x && is_private n) ≡ false) (sym founded_is) p)

      by_slot : (b : Bool) → nat_lt n 496 ≡ b → (248 ≤ n)
          → Told (option_map h.points (if b then Some (StartSlot ((n - 248) / 8 + 1) ((n - 248) % 8)) else where_true (is_private n) (StartMemory n)))
          (if b then StartSlot ((n - 248) / 8 + 1) ((n - 248) % 8) else StartMemory n)
      by_slot true k le =
          let below : n < 496 = ltb-true n 496 k in
          let is = register-at (n - 248) (omega arith) in
          let at : At = StartSlot ((n - 248) / 8 + 1) ((n - 248) % 8) in
          shown-there h at (there at (is_register_byte ((n - 248) / 8 + 1) ((n - 248) % 8)) (is-register _ _ is)) (shows at (founds, is))
      by_slot false k le = by_private (is_private n) refl

      by_register : (b : Bool) → nat_lt n 248 ≡ b
          → Told (option_map h.points (if b then Some (StartRegister (n / 8 + 1) (n % 8)) else if nat_lt n 496 then Some (StartSlot ((n - 248) / 8 + 1) ((n - 248) % 8)) else where_true (is_private n) (StartMemory n)))
          (if b then StartRegister (n / 8 + 1) (n % 8) else if nat_lt n 496 then StartSlot ((n - 248) / 8 + 1) ((n - 248) % 8) else StartMemory n)
      by_register true k =
          let is = register-at n (ltb-true n 248 k) in
          let at : At = StartRegister (n / 8 + 1) (n % 8) in
          shown-there h at (there at (is_register_byte (n / 8 + 1) (n % 8)) (is-register _ _ is)) (shows at (founds, is))
      by_register false k = by_slot (nat_lt n 496) refl (ltb-false n 248 k)

  -- where no group began at the event
  unfounded : (h : Heard) (n : ℕ) → h.founds ≡ false → ShowsNothing (Some (hearing_of h)) (start_at n)
  unfounded h n founds = by_register (nat_lt n 248)
    where
      by_slot : (b : Bool) → ShowsNothing (Some (hearing_of h)) (if b then StartSlot ((n - 248) / 8 + 1) ((n - 248) % 8) else StartMemory n)
      by_slot true = founds
      by_slot false = founds

      by_register : (b : Bool) → ShowsNothing (Some (hearing_of h)) (if b then StartRegister (n / 8 + 1) (n % 8) else if nat_lt n 496 then StartSlot ((n - 248) / 8 + 1) ((n - 248) % 8) else StartMemory n)
      by_register true = founds
      by_register false = by_slot (nat_lt n 496)

  abbrev Nothing : Option Heard → Type 0
  Nothing o = (at : At) → ShowsNothing (option_map hearing_of o) at → t.points event at ≡ []

  byte-heard : (o : Option Heard) (k : ℕ) → IfSome o (ShowsHeard event t) → IfSome (option_map hearing_of o) (IsHearingOf e) → Nothing o → nat_lt k (event_len e) ≡ true → Told (option_and_then (event_answer k) o) (Byte k)
  byte-heard None k shows hearing nothing below = either-none (has_byte e (Byte k)) (t.points event (Byte k)) (nothing (Byte k) tt)
  byte-heard (Some h) k shows hearing nothing below = byte-told h k hearing.len below shows

  start-heard : (o : Option Heard) (n : ℕ) → IfSome o (ShowsHeard event t) → IfSome (option_map hearing_of o) (IsHearingOf e) → Nothing o → Told (option_and_then (start_answer n) o) (start_at n)
  start-heard None n shows hearing nothing = either-none (has_byte e (start_at n)) (t.points event (start_at n)) (nothing (start_at n) tt)
  start-heard (Some h) n shows hearing nothing = by_founds h.founds refl
    where
      by_founds : (b : Bool) → h.founds ≡ b → Told (if b then option_map h.points (asked.start_at n) else None) (start_at n)
      by_founds true f = founding-told h n f (hearing.founds f) shows
      by_founds false f = either-none (has_byte e (start_at n)) (t.points event (start_at n)) (nothing (start_at n) (unfounded h n f))

  pub told-at : (x : Tracking) → Shows x t → IfSome (hearings_of x event) (IsHearingOf e) → Nothing (x.heard event) → (p : Place) (q : Point) → point_of event p (event_len e) ≡ Some q → Told (answer x q) (at_of p)
  told-at x shows hearing nothing (place.Byte k) q is = by_test (nat_lt k (event_len e)) refl is
    where
      by_test : (b : Bool) → nat_lt k (event_len e) ≡ b → (if b then Some (point.Event event k) else None) ≡ Some q → Told (answer x q) (Byte k)
      by_test true below same = subst (λ (p : Point). Told (answer x p) (Byte k)) (some-same (point.Event event k) q same) (byte-heard (x.heard event) k (shows.heard event) hearing nothing below)
      by_test false below same = absurd (cc)
  told-at x shows hearing nothing (place.Start n) q is =
      subst (λ (p : Point). Told (answer x p) (start_at n)) (some-same (point.Start event n) q is) (start-heard (x.heard event) n (shows.heard event) hearing nothing)

-- a byte that the event doesn't have
behind : (e : Record) (event : ℕ) (p : Place) → point_of event p (event_len e) ≡ None → has_byte e (at_of p) ≡ false
behind e event (place.Byte k) is = by_test (nat_lt k (event_len e)) refl is
  where
    by_test : (b : Bool) → nat_lt k (event_len e) ≡ b → (if b then Some (point.Event event k) else None) ≡ None → nat_lt k (event_len e) ≡ false
    by_test true below same = absurd (cc)
    by_test false below same = below
behind e event (place.Start n) is = absurd (cc)

-- what a group that was followed tells
module _ (f : Following) (g : ℕ) (kept : Kept) (follows : Follows f.linkage f.entries f.until g kept) (event : ℕ) (e : Record) (is_event : event_at f.entries event ≡ Some e) where
  abbrev table : Table
  table = operands f.linkage

  hearing-is : HearsEvents → IfSome (hearings_of (shown kept) event) (IsHearingOf e)
  hearing-is hears =
      subst (λ (o : Option Hearing). IfSome o (IsHearingOf e)) (sym (follows.heard event))
      (subst (λ (r : Option Record). IfSome (heard_from follows.own.inside none_heard event) (IsHeard r)) is_event (hears f.entries g f.until follows.own follows.makes event))

  nothing-is : UnheardHaveNone → (at : At) → ShowsNothing (hearings_of (shown kept) event) at → (alone table follows.own.inside).points event at ≡ []
  nothing-is unheard at h = unheard table follows.own.inside event at (subst (λ (o : Option Hearing). ShowsNothing o at) (follows.heard event) h)

  items-are : (at : At) → event_group f.entries event ≡ Some g → tracker_of f g ≡ Some kept → items_followed f event at ≡ Held e at ((alone table follows.own.inside).points event at)
  items-are at is_group is_tracker =
      ap (λ (o : Option Record). if is_there o at then items_by f event at (event_group f.entries event) else []) is_event
      ∙ ap (λ (o : Option ℕ). if has_byte e at then items_by f event at o else []) is_group
      ∙ ap (λ (o : Option Kept). if has_byte e at then items_kept f event at g o else []) is_tracker
      ∙ ap (λ (made : Made). if has_byte e at then (tracked_of table made).points event at else []) follows.makes

  own-told : HearsEvents → UnheardHaveNone → event_group f.entries event ≡ Some g → tracker_of f g ≡ Some kept → (p : Place) (q : Point) → point_of event p (event_len e) ≡ Some q
      → AreItems (unwrap_or (answer (shown kept) q) []) (items_followed f event (at_of p))
  own-told hears unheard is_group is_tracker p q is =
      subst (λ (bytes : List EventByte). AreItems (unwrap_or (answer (shown kept) q) []) bytes) (sym (items-are (at_of p) is_group is_tracker))
      (told-at e event (alone table follows.own.inside) (shown kept) follows.shows (hearing-is hears) (nothing-is unheard) p q is)

-- What groups that were followed tell of a byte that an event has is what reaches it in the event's own group.
pub asked-told : (f : Following) → IsFollowing f → HearsEvents → UnheardHaveNone → (event : ℕ) (p : Place) (q : Point) → point_at f event p ≡ Some q
    → AreItems (told_by f q (event_group f.entries event)) (items_followed f event (at_of p))
asked-told f following hears unheard event p q is = by_event (event_at f.entries event) refl is
  where
    none : items_by f event (at_of p) (event_group f.entries event) ≡ [] → AreItems [] (items_followed f event (at_of p))
    none h = either-none (is_there (event_at f.entries event) (at_of p)) (items_by f event (at_of p) (event_group f.entries event)) h

    by_tracker : (e : Record) (g : ℕ) (o : Option Kept) → event_at f.entries event ≡ Some e → point_of event p (event_len e) ≡ Some q → event_group f.entries event ≡ Some g → tracker_of f g ≡ o
        → AreItems (told_of q o) (items_followed f event (at_of p))
    by_tracker e g None is_event at is_group is_tracker = none (ap (items_by f event (at_of p)) is_group ∙ ap (items_kept f event (at_of p) g) is_tracker)
    by_tracker e g (Some kept) is_event at is_group is_tracker =
        own-told f g kept (subst (λ (o : Option Kept). IfSome o (Follows f.linkage f.entries f.until g)) is_tracker (following g)) event e is_event hears unheard is_group is_tracker p q at

    by_group : (e : Record) (o : Option ℕ) → event_at f.entries event ≡ Some e → point_of event p (event_len e) ≡ Some q → event_group f.entries event ≡ o → AreItems (told_by f q o) (items_followed f event (at_of p))
    by_group e None is_event at is_group = none (ap (items_by f event (at_of p)) is_group)
    by_group e (Some g) is_event at is_group = by_tracker e g (tracker_of f g) is_event at is_group refl

    by_event : (o : Option Record) → event_at f.entries event ≡ o → option_and_then (point_of event p) (option_map event_len o) ≡ Some q
        → AreItems (told_by f q (event_group f.entries event)) (items_followed f event (at_of p))
    by_event None is_event at = absurd (cc)
    by_event (Some e) is_event at = by_group e (event_group f.entries event) is_event at refl

-- nothing reaches a byte that no event has
pub none-told : (f : Following) (event : ℕ) (p : Place) → point_at f event p ≡ None → AreItems [] (items_followed f event (at_of p))
none-told f event p is = by_event (event_at f.entries event) refl is
  where
    by_event : (o : Option Record) → event_at f.entries event ≡ o → option_and_then (point_of event p) (option_map event_len o) ≡ None → AreItems [] (items_followed f event (at_of p))
    by_event None is_event at = subst (λ (o : Option Record). AreItems [] (if is_there o (at_of p) then items_by f event (at_of p) (event_group f.entries event) else [])) (sym is_event) no-items
    by_event (Some e) is_event at =
        subst (λ (o : Option Record). AreItems [] (if is_there o (at_of p) then items_by f event (at_of p) (event_group f.entries event) else [])) (sym is_event)
        (subst (λ (b : Bool). AreItems [] (if b then items_by f event (at_of p) (event_group f.entries event) else [])) (sym (behind e event p at)) no-items)

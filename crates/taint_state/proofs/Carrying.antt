-- What is kept, where its sets are carried over.
use Rattle.std.proofs.Common.{Err, Ok, OnOk, Result, ◌≡◌, ℕ, suc, ◌+◌, ◌-◌, ◌*◌, ◌<◌, ◌≤◌, ◌==◌, nat_lt, Bool, true, false, if◌then◌else◌, List, [], ◌∷◌, length, slice_index, slice_set, Option, None, Some, IfSome, is_some, option_map, refl, sym, subst, ap, ◌∙◌, arith}
use Rattle.std.proofs.Math.ListN.{get_or-eq_default}
use Rattle.std.proofs.lemmas.Bool.{eqb-true, eqb-false, ltb-true, ltb-false}
use Rattle.std.proofs.lemmas.Grind.{get_or-set_at}
use Rattle.std.proofs.lemmas.List.{get_or-set_other, length-set}
use Rattle.parts_model.specs.declared.limits.TheConstants.{SEGMENT_START, WINDOW_START}
use Rattle.lineage_model.specs.Flow.{At, Byte, StartRegister, StartSlot, StartMemory}
use Rattle.taint_spans.specs.Carried.{Carried, CarriesOn, HasNumber, HaveNumbers}
use Rattle.taint_spans.specs.Numbered.{IsSet, members_of}
use Rattle.taint_state.specs.declared.heard.ChildStart.{ChildStart}
use Rattle.taint_state.specs.declared.heard.HeardEvent.{HeardEvent}
use Rattle.taint_state.specs.Carried.{Carries, CarriesEvents, CarriesHeard, CarriesList, CarriesMember, CarriesShow, CarriesStart, IfBoth, KeepEvents}
use Rattle.taint_state.specs.Heard.{AreInOrder, entry_at, event_at, heard_in, kept_heard, kept_start}
use Rattle.taint_state.specs.Kept.{Kept, KeptHeard, KeptMember, KeptStart, heard_among, items_of, point_items, shown, shown_heard, shown_member, start_items}
use Rattle.taint_state.specs.Sound.{AreSets, AreSetsOfRow, IsSound, IsSoundHeard, IsSoundMember, IsSoundStart}
use Rattle.taint_state.proofs.Ordered.{none_heard}

-- what both give is the same
both-map : {A B : Type 0} (R : A → A → Type 0) (f g : A → B) → ((a b : A) → R a b → g b ≡ f a) → (o p : Option A) → IfBoth R o p → option_map g p ≡ option_map f o
both-map R f g same None None h = refl
both-map R f g same None (Some b) h = absurd h
both-map R f g same (Some a) None h = absurd h
both-map R f g same (Some a) (Some b) h = ap Some (same a b h)

both-if : {A : Type 0} (R : A → A → Type 0) (P Q : A → Type 0) → ((a b : A) → R a b → P a → Q b) → (o p : Option A) → IfBoth R o p → IfSome o P → IfSome p Q
both-if R P Q goes None None h s = tt
both-if R P Q goes None (Some b) h s = absurd h
both-if R P Q goes (Some a) None h s = absurd h
both-if R P Q goes (Some a) (Some b) h s = goes a b h s

no-bytes : (l : List ℕ) → length l ≡ 0 → l ≡ []
no-bytes [] e = refl
no-bytes (x ∷ xs) e = absurd (omega arith)

module _ (sets : Carried) (x y : Kept) (c : Carries sets x y) where
  same : (was is : ℕ) → HasNumber sets was is → members_of y.sets is ≡ members_of x.sets was
  same was is h = ap (λ s. members_of s is) c.into ∙ h.same ∙ ap (λ s. members_of s was) c.from

  there : (was is : ℕ) → HasNumber sets was is → IsSet x.sets was → IsSet y.sets is
  there was is h s = subst (λ n. IsSet n is) (sym c.into) (h.there (subst (λ n. IsSet n was) (sym c.from) s))

  -- behind the last number both are 0
  each : (was is : List ℕ) → HaveNumbers sets was is → (k : ℕ) → HasNumber sets (slice_index was k) (slice_index is k)
  each was is h k = by (nat_lt k (length was)) refl
    where
      by : (b : Bool) → nat_lt k (length was) ≡ b → HasNumber sets (slice_index was k) (slice_index is k)
      by true e = h.each k (ltb-true k (length was) e)
      by false e =
          let past = ltb-false k (length was) e in
          subst (λ a. HasNumber sets a (slice_index is k)) (sym (get_or-eq_default was 0 past))
          (subst (λ b. HasNumber sets 0 b) (sym (get_or-eq_default is 0 (subst (λ n. n ≤ k) (sym h.len) past))) c.zero)

  byte-same : (was is : List ℕ) → HaveNumbers sets was is → (k : ℕ) → items_of y (slice_index is k) ≡ items_of x (slice_index was k)
  byte-same was is h k = same (slice_index was k) (slice_index is k) (each was is h k)

  member-same : (m n : KeptMember) → CarriesMember sets m n → shown_member y n ≡ shown_member x m
  member-same m n h = λ i. record {
    holds = h.holds i;
    registers = λ r b. byte-same m.registers n.registers h.registers (8 * r + b) i;
    slot = λ r b. byte-same m.slot n.slot h.slot (8 * r + b) i;
    window = λ at. byte-same m.window n.window h.window (at - WINDOW_START) i;
    segment = λ at. byte-same m.segment n.segment h.segment (at - SEGMENT_START) i;
  }

  start-same : (o p : Option KeptStart) → IfBoth (CarriesStart sets) o p → (at : At) → start_items y p at ≡ start_items x o at
  start-same None None h at = refl
  start-same None (Some b) h at = absurd h
  start-same (Some a) None h at = absurd h
  start-same (Some a) (Some b) h (Byte k) = refl
  start-same (Some a) (Some b) h (StartRegister r i) = byte-same a.registers b.registers h.registers (8 * r + i)
  start-same (Some a) (Some b) h (StartSlot r i) = byte-same a.slot b.slot h.slot (8 * r + i)
  start-same (Some a) (Some b) h (StartMemory at) = byte-same a.window b.window h.window (at - WINDOW_START)

  points-same : (a b : KeptHeard) → CarriesHeard sets a b → (at : At) → point_items y b at ≡ point_items x a at
  points-same a b h (Byte k) = byte-same a.numbers b.numbers h.numbers k
  points-same a b h (StartRegister r i) = start-same a.start b.start h.start (StartRegister r i)
  points-same a b h (StartSlot r i) = start-same a.start b.start h.start (StartSlot r i)
  points-same a b h (StartMemory at) = start-same a.start b.start h.start (StartMemory at)

  founds-same : (o p : Option KeptStart) → IfBoth (CarriesStart sets) o p → is_some p ≡ is_some o
  founds-same None None h = refl
  founds-same None (Some b) h = absurd h
  founds-same (Some a) None h = absurd h
  founds-same (Some a) (Some b) h = refl

  heard-same : (a b : KeptHeard) → CarriesHeard sets a b → shown_heard y b ≡ shown_heard x a
  heard-same a b h = λ i. record { len = h.numbers.len i; founds = founds-same a.start b.start h.start i; points = λ at. points-same a b h at i }

  shows : shown y ≡ shown x
  shows = λ i. record {
    linkage = c.linkage i;
    members = λ pid. both-map (CarriesMember sets) (shown_member x) (shown_member y) member-same _ _ (c.members pid) i;
    heard = λ event. both-map (CarriesHeard sets) (shown_heard x) (shown_heard y) heard-same _ _ (c.heard event) i;
  }

  row-sound : (was is : List ℕ) → HaveNumbers sets was is → AreSetsOfRow x.sets was → AreSetsOfRow y.sets is
  row-sound was is h s = λ r i byte. there (slice_index was (8 * r + i)) (slice_index is (8 * r + i)) (each was is h (8 * r + i)) (s r i byte)

  list-sound : (was is : List ℕ) → HaveNumbers sets was is → AreSets x.sets was → AreSets y.sets is
  list-sound was is h s = λ k. there (slice_index was k) (slice_index is k) (each was is h k) (s k)

  member-sound : (m n : KeptMember) → CarriesMember sets m n → IsSoundMember x.sets m → IsSoundMember y.sets n
  member-sound m n h s = record {
    registers = row-sound m.registers n.registers h.registers s.registers;
    slot = row-sound m.slot n.slot h.slot s.slot;
    window = list-sound m.window n.window h.window s.window;
    segment = list-sound m.segment n.segment h.segment s.segment;
    window_whole = h.window.len ∙ s.window_whole;
    segment_whole = λ made e. h.segment.len ∙ s.segment_whole made (sym (ap (λ held. held.segment) h.holds) ∙ e);
    unheld = λ e. no-bytes n.segment (h.segment.len ∙ ap length (s.unheld (sym (ap (λ held. held.segment) h.holds) ∙ e)));
  }

  start-sound : (a b : KeptStart) → CarriesStart sets a b → IsSoundStart x.sets a → IsSoundStart y.sets b
  start-sound a b h s = record {
    registers = row-sound a.registers b.registers h.registers s.registers;
    slot = row-sound a.slot b.slot h.slot s.slot;
    window = list-sound a.window b.window h.window s.window;
  }

  heard-sound : (a b : KeptHeard) → CarriesHeard sets a b → IsSoundHeard x.sets a → IsSoundHeard y.sets b
  heard-sound a b h s = record {
    numbers = list-sound a.numbers b.numbers h.numbers s.numbers;
    start = both-if (CarriesStart sets) (IsSoundStart x.sets) (IsSoundStart y.sets) start-sound a.start b.start h.start s.start;
  }

  stays-sound : IsSound x → IsSound y
  stays-sound s = record {
    zero = there 0 0 c.zero s.zero;
    empty = same 0 0 c.zero ∙ s.empty;
    members = λ pid. both-if (CarriesMember sets) (IsSoundMember x.sets) (IsSoundMember y.sets) member-sound _ _ (c.members pid) (s.members pid);
    heard = λ event. both-if (CarriesHeard sets) (IsSoundHeard x.sets) (IsSoundHeard y.sets) heard-sound _ _ (c.heard event) (s.heard event);
  }

pub carries-show : CarriesShow
carries-show sets x y c = record { shown = shows sets x y c; sound = stays-sound sets x y c }

-- events in a list, by their numbers
choose : {A : Type 0} (R : A → A → Type 0) (b : Bool) (a c : A) (o p : Option A) → R a c → IfBoth R o p → IfBoth R (if b then Some a else o) (if b then Some c else p)
choose R true a c o p one rest = one
choose R false a c o p one rest = rest

pub events-among : (sets : Carried) (old new : List HeardEvent) → CarriesList sets old new → CarriesEvents sets (heard_in old) (heard_in new)
events-among sets [] [] c event = tt
events-among sets [] (b ∷ others) c event = let len = c.len in absurd (omega arith)
events-among sets (a ∷ more) [] c event = let len = c.len in absurd (omega arith)
events-among sets (a ∷ more) (b ∷ others) c event =
    let one = c.each 0 (omega arith) in
    let rest = events-among sets more others (record { len = (let len = c.len in omega arith); each = λ k below. c.each (suc k) (omega arith) }) event in
    subst (λ e. IfBoth (CarriesHeard sets) (if a.event == event then Some (kept_heard a) else heard_among (heard_in more) event) (if e == event then Some (kept_heard b) else heard_among (heard_in others) event)) (sym one.event)
    (choose (CarriesHeard sets) (a.event == event) (kept_heard a) (kept_heard b) (heard_among (heard_in more) event) (heard_among (heard_in others) event) one rest)

pub order-kept : (old new : List HeardEvent) → KeepEvents old new → AreInOrder old → AreInOrder new
order-kept old new kept rise i j less below = omega (arith, kept.same i, kept.same j, rise i j less (subst (λ n. j < n) kept.len below))

-- what was carried over stays so
pub have-still : (a b : Carried) (was is : List ℕ) → CarriesOn a b → HaveNumbers a was is → HaveNumbers b was is
have-still a b was is on h = record { len = h.len; each = λ k below. on.still (slice_index was k) (slice_index is k) (h.each k below) }

pub on-twice : (a b c : Carried) → CarriesOn a b → CarriesOn b c → CarriesOn a c
on-twice a b c f g = record { from = g.from ∙ f.from; still = λ was is h. g.still was is (f.still was is h) }

pub start-still : (a b : Carried) (o p : Option KeptStart) → CarriesOn a b → IfBoth (CarriesStart a) o p → IfBoth (CarriesStart b) o p
start-still a b None None on h = tt
start-still a b None (Some s) on h = absurd h
start-still a b (Some r) None on h = absurd h
start-still a b (Some r) (Some s) on h = record {
  registers = have-still a b r.registers s.registers on h.registers;
  slot = have-still a b r.slot s.slot on h.slot;
  window = have-still a b r.window s.window on h.window;
}

pub heard-still : (a b : Carried) (was is : KeptHeard) → CarriesOn a b → CarriesHeard a was is → CarriesHeard b was is
heard-still a b was is on h = record { event = h.event; numbers = have-still a b was.numbers is.numbers on h.numbers; start = start-still a b was.start is.start on h.start }

-- the events before a place are carried over, and those from it on aren't yet
pub record CarriedTo (begun now : Carried) (first list : List HeardEvent) (place : ℕ) : Type 0 where
  pub kept : KeepEvents first list
  pub done : (k : ℕ) → k < place → CarriesHeard now (kept_heard (entry_at first k)) (kept_heard (entry_at list k))
  pub rest : (k : ℕ) → place ≤ k → entry_at list k ≡ entry_at first k
  pub on : CarriesOn begun now

pub carried-first : (sets : Carried) (list : List HeardEvent) → CarriedTo sets sets list list 0
carried-first sets list = record {
  kept = record { len = refl; same = λ k. refl };
  done = λ k below. absurd (omega arith);
  rest = λ k from. refl;
  on = record { from = refl; still = λ was is h. h };
}

module _ (begun now next : Carried) (first list : List HeardEvent) (place : ℕ) (was new : HeardEvent) (so : CarriedTo begun now first list place) (inside : place < length list) (read : was ≡ entry_at list place)
    (on : CarriesOn now next) (event : new.event ≡ was.event) where
  pub events-kept : KeepEvents first (slice_set list place new)
  events-kept = record { len = length-set list place new ∙ so.kept.len; same = λ k. by k (k == place) refl }
    where
      by : (k : ℕ) (b : Bool) → (k == place) ≡ b → event_at (slice_set list place new) k ≡ event_at first k
      by k true e =
          let is = eqb-true k place e in
          ap (λ (h : HeardEvent). h.event) (get_or-set_at list place k new none_heard is inside) ∙ event ∙ ap (λ (h : HeardEvent). h.event) read ∙ ap (λ j. event_at list j) (sym is) ∙ so.kept.same k
      by k false e = ap (λ (h : HeardEvent). h.event) (get_or-set_other list place k new none_heard (eqb-false k place e)) ∙ so.kept.same k

  pub on-so : CarriesOn begun next
  on-so = on-twice begun now next so.on on

  pub carried-more : CarriesHeard next (kept_heard was) (kept_heard new) → CarriedTo begun next first (slice_set list place new) (place + 1)
  carried-more one = record {
    kept = events-kept;
    done = λ k below. by k below (k == place) refl;
    rest = λ k behind. get_or-set_other list place k new none_heard (λ e. omega arith) ∙ so.rest k (omega arith);
    on = on-so;
  }
    where
      by : (k : ℕ) → k < place + 1 → (b : Bool) → (k == place) ≡ b → CarriesHeard next (kept_heard (entry_at first k)) (kept_heard (entry_at (slice_set list place new) k))
      by k below true e =
          let is = eqb-true k place e in
          subst (λ h. CarriesHeard next (kept_heard (entry_at first k)) (kept_heard h)) (sym (get_or-set_at list place k new none_heard is inside))
          (subst (λ h. CarriesHeard next (kept_heard h) (kept_heard new)) (read ∙ ap (λ j. entry_at list j) (sym is) ∙ so.rest k (omega arith)) one)
      by k below false e =
          let apart = eqb-false k place e in
          subst (λ h. CarriesHeard next (kept_heard (entry_at first k)) (kept_heard h)) (sym (get_or-set_other list place k new none_heard apart))
          (heard-still now next (kept_heard (entry_at first k)) (kept_heard (entry_at list k)) on (so.done k (omega (arith, apart))))

pub carried-all : (begun now : Carried) (first list : List HeardEvent) (place : ℕ) → CarriedTo begun now first list place → length first ≤ place → CarriesList now first list
carried-all begun now first list place so all = record { len = so.kept.len; each = λ k below. so.done k (omega arith) }

-- registers, slot and window one after the other
pub start-carried : {X Y : Type 0} (r : Result X Y) (first second third : Carried) (m : ChildStart) (registers slot window : List ℕ) → HaveNumbers first m.registers registers → HaveNumbers second m.slot slot → CarriesOn first second → CarriesOn second third
    → OnOk r (HaveNumbers third m.window window) → OnOk r (CarriesStart third (kept_start m) (record { registers = registers; slot = slot; window = window }))
start-carried (Ok x) first second third m registers slot window one two on more three = record {
  registers = have-still first third m.registers registers (on-twice first second third on more) one;
  slot = have-still second third m.slot slot more two;
  window = three;
}
start-carried (Err e) first second third m registers slot window one two on more three = tt

-- the numbers of an event and what a child began with
pub heard-carried : {X Y : Type 0} (r : Result X Y) (sets : Carried) (was is : KeptHeard) → is.event ≡ was.event → OnOk r (HaveNumbers sets was.numbers is.numbers) → OnOk r (IfBoth (CarriesStart sets) was.start is.start) → OnOk r (CarriesHeard sets was is)
heard-carried (Ok x) sets was is event numbers start = record { event = event; numbers = numbers; start = start }
heard-carried (Err e) sets was is event numbers start = tt

pub on-ok : {X Y : Type 0} {P Q : Type 0} (r : Result X Y) → (P → Q) → OnOk r P → OnOk r Q
on-ok (Ok x) f p = f p
on-ok (Err e) f p = p

pub ok-all : {X Y : Type 0} {Q : Type 0} (r : Result X Y) → Q → OnOk r Q
ok-all (Ok x) q = q
ok-all (Err e) q = tt

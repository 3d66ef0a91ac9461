-- A member that starts from an image.
use Rattle.std.proofs.Common.{◌≡◌, ◌≢◌, ℕ, ◌+◌, ◌-◌, ◌<◌, ◌==◌, ◌&&◌, nat_le, nat_lt, cond, Bool, true, false, List, [], slice_index, Option, Some, None, IfSome, option_map, unwrap_or, refl, sym, ap, subst, ◌∙◌, ne_eqb, arith}
use Rattle.std.proofs.lemmas.Bool.{leb-true, lt-ltb, ltb-true}
use Rattle.parts_model.specs.Image.{header_len}
use Rattle.parts_model.specs.declared.limits.TheConstants.{WINDOW_START}
use Rattle.acts_model.specs.Moved.{within}
use Rattle.acts_model.specs.Views.{block_at}
use Rattle.acts_model.specs.Transfers.{Holds, Starts, place_of}
use Rattle.lineage_model.specs.Flow.{Byte, Register, Slot, Memory, Dependence, block_byte, body_byte, bytes_at, received_byte, started_byte, when}
use Rattle.lineage_model.specs.Tracking.{gather}
use Rattle.taint_events.specs.Bytes.{AreReceived}
use Rattle.taint_events.specs.Starting.{body_number, started_number}
use Rattle.taint_state.specs.Events.{number_at, plain_heard}
use Rattle.taint_state.specs.EventsShow.{StartsShow}
use Rattle.taint_state.specs.Goes.{IsOwn, IsUnheldBy}
use Rattle.taint_state.specs.Kept.{Kept, KeptMember, items_of, shown, shown_member}
use Rattle.taint_state.specs.Shown.{AreItems, ShowsMember}
use Rattle.taint_state.specs.Sound.{IsSoundMember}
use Rattle.taint_state.specs.Steps.{IsWhole, holders_of}
use Rattle.taint_state.proofs.Keeping.{sharers-sound, follows, good-received, old-sound, plain-sound, started-sound, zero-later}
use Rattle.taint_state.proofs.Flows.{Setting, by-written, cleared, given, of-nothing, of-received, shown-before, sound-before}
use Rattle.taint_state.proofs.Goings.{goes, held-before, plain-points, self-test, setting}
use Rattle.taint_state.proofs.Reading.{of-read, private-bounds, reads}
use Rattle.taint_state.proofs.Receiving.{item-items}
use Rattle.taint_state.proofs.Received.{window-inside}
use Rattle.taint_state.proofs.Seeing.{holders-seen, members-seen}
use Rattle.taint_state.proofs.Segments.{not-made}

-- which of so many it is
pub within-below : (a n b k : ℕ) → within a n b ≡ Some k → k < n
within-below a n b k e = by_test (nat_le a b && nat_lt b (a + n)) refl e
  where
    inj : (i j : ℕ) → Some i ≡ Some j → i ≡ j
    inj i j h = cc

    both : (t u : Bool) → (t && u) ≡ true → (t ≡ true) × (u ≡ true)
    both true true h = (refl, refl)
    both true false h = absurd (cc)
    both false u h = absurd (cc)

    by_test : (t : Bool) → (nat_le a b && nat_lt b (a + n)) ≡ t → cond t (Some (b - a)) None ≡ Some k → k < n
    by_test true h q =
        let parts = both (nat_le a b) (nat_lt b (a + n)) h in
        let above = leb-true a b parts.0 in
        let below = ltb-true b (a + n) parts.1 in
        let same = inj (b - a) k q in
        omega arith
    by_test false h q = absurd (cc)

-- a member that held no memory of this name
pub own-before : (x : Kept) (made pid p : ℕ) (m : KeptMember) → IsOwn (holders_of (shown x)) pid made → p ≢ pid → holders_of (shown x) p ≡ Some m.holds → IsUnheldBy made m.holds
own-before x made pid p m own ne held = subst (λ o. IfSome o (IsUnheldBy made)) held (own p ne)

module _ (s : Setting) (pid load len block block_len : ℕ) (old : KeptMember) (numbers : List ℕ) (had : ShowsMember pid s.t (shown_member s.x old)) (sound : IsSoundMember s.x.sets old)
    (whole : IsWhole (place_of old.holds block block_len) block_len) (received : AreReceived s.y.sets s.event.number len numbers) where
  abbrev GathersTo : ℕ → List Dependence → Type 0
  GathersTo n ds = AreItems (items_of s.y n) (gather (given s) s.t.locations ds)

  body-takes : (a : ℕ) (o : Option ℕ) → within load (len - header_len) a ≡ o
      → GathersTo (unwrap_or (option_map (λ k. slice_index numbers (header_len + k)) o) 0) (unwrap_or (option_map (λ k. received_byte (header_len + k)) o) [])
  body-takes a None e = of-nothing s 0 refl
  body-takes a (Some k) e =
      let below = within-below load (len - header_len) a k e in
      let inside : header_len + k < len = omega arith in
      of-received s (slice_index numbers (header_len + k)) (Byte (header_len + k)) (item-items s (header_len + k) (slice_index numbers (header_len + k)) (received.items (header_len + k) inside))

  body-of : (a : ℕ) → GathersTo (body_number load numbers a) (body_byte load len a)
  body-of a =
      subst (λ n. GathersTo (unwrap_or (option_map (λ k. slice_index numbers (header_len + k)) (within load (n - header_len) a)) 0) (body_byte load len a)) (sym received.len)
      (body-takes a (within load (len - header_len) a) refl)

  start-takes : (a : ℕ) (o : Option ℕ) → within (block_at block_len) block_len a ≡ o
      → GathersTo (unwrap_or (option_map (number_at old block) o) (body_number load numbers a)) (unwrap_or (option_map (block_byte (place_of old.holds block block_len)) o) (body_byte load len a))
  start-takes a None e = body-of a
  start-takes a (Some k) e =
      let below = within-below (block_at block_len) block_len a k e in
      of-read s pid old had sound (number_at old block k) (bytes_at (place_of old.holds block block_len) k) (reads s pid old had sound block block_len k below whole)

  pub started : (a : ℕ) → GathersTo (started_number load numbers (number_at old block) block_len a) (started_byte load len (place_of old.holds block block_len) block_len a)
  started a = start-takes a (within (block_at block_len) block_len a) refl

pub no-segment : {A : Type 0} (made : ℕ) (h : Holds) (m : ℕ) → h ≡ record { window = made; segment = None } → h.segment ≡ Some m → A
no-segment made h m is has = absurd (not-some (sym (ap (λ (k : Holds). k.segment) is) ∙ has))
  where
    not-some : None ≡ Some m → ⊥
    not-some q = absurd (cc)

pub starts-show : StartsShow
starts-show x y pid number e before load len block block_len old new numbers sound count received to becomes =
    let heard = plain_heard number numbers in
    let place = place_of old.holds block block_len in
    let tr = Starts pid number load len place block_len in
    follows _ x y
    (sharers-sound x y pid old new heard sound becomes (started-sound y.sets number load numbers block block_len old new (zero-later x y sound becomes.stays.sets) (good-received y.sets (zero-later x y sound becomes.stays.sets) number len numbers received) to (old-sound x y pid old sound becomes.stays.sets becomes.was)) (plain-sound y.sets number numbers (good-received y.sets (zero-later x y sound becomes.stays.sets) number len numbers received)))
    (goes x y pid number e before tr heard sound becomes.stays becomes.heard refl (received.len ∙ count) refl (λ h k. refl)
    (λ p. holders-seen x y pid new becomes.members p ∙ ap (λ (h : Holds). cond (p == pid) (Some h) (holders_of (shown x) p)) to.holds)
    (λ clear possible t shows.
    let s = setting x y pid number e before tr heard sound becomes.stays t shows in
    let had = shown-before s pid old becomes.was in
    let sets = sound-before s pid old becomes.was in (
      members-seen s pid new becomes.members
          (record {
            registers = λ r i is. cleared s _ (Register pid r i) (to.registers r i) (ap (λ b. when b []) (self-test pid));
            slot = λ r i is. cleared s _ (Slot pid r i) (to.slot r i) (ap (λ b. when b []) (self-test pid));
            window = λ a is.
                let bounds = private-bounds a is in
                let above = bounds.0 in
                let back : WINDOW_START + (a - WINDOW_START) ≡ a = omega arith in
                let is_number = to.window.bytes (a - WINDOW_START) (window-inside a 262144 is refl) ∙ ap (started_number load numbers (number_at old block) block_len) back in
                let made = ap (λ (h : Holds). h.window) to.holds in
                by-written s _ (Memory new.holds.window a) (Some (started_byte load len place block_len a))
                (ap (λ m. when (m == number) (started_byte load len place block_len a)) made ∙ ap (λ b. when b (started_byte load len place block_len a)) (self-test number))
                (subst (λ n. AreItems (items_of y n) (gather (given s) t.locations (started_byte load len place block_len a))) (sym is_number) (started s pid load len block block_len old numbers had sets possible.1 received a));
            segment = λ made a has is. no-segment number new.holds made to.holds has;
          })
          (λ p other ne was.
          let free = own-before x number pid p other possible.0 ne (held-before x p other was) in
          record {
            registers = λ r i. ap (λ b. when b []) (ne_eqb p pid ne);
            slot = λ r i. ap (λ b. when b []) (ne_eqb p pid ne);
            window = λ a is. ap (λ b. when b (started_byte load len place block_len a)) (ne_eqb other.holds.window number free.window);
            segment = λ made a has is. ap (λ b. when b (started_byte load len place block_len a)) (ne_eqb made number (not-made number other.holds made free has));
          }),
      plain-points s number numbers (λ k below.
          let inside = subst (λ n. k < n) received.len below in
          subst (λ b. AreItems (items_of y (slice_index numbers k)) (gather (given s) t.locations (cond b (received_byte k) []))) (sym (lt-ltb k len inside))
          (of-received s (slice_index numbers k) (Byte k) (item-items s k (slice_index numbers k) (received.items k inside)))),
    )))

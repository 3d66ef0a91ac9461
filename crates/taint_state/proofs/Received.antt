-- All members, where one receives bytes.
use Rattle.std.proofs.Common.{◌≡◌, ◌≢◌, ℕ, ◌-◌, ◌<◌, ◌==◌, ◌&&◌, cond, true, List, [], length, slice_index, Option, Some, None, IsTrue, refl, sym, ap, subst, ◌∙◌, ne_eqb, arith}
use Rattle.std.proofs.lemmas.Bool.{lt-ltb}
use Rattle.parts_model.specs.Numbered.{nth}
use Rattle.parts_model.specs.declared.limits.TheConstants.{WINDOW_START, SEGMENT_START, WINDOW_LEN, SEGMENT_LEN}
use Rattle.acts_model.specs.Transfers.{Holds, Place, Receives, is_private, is_shared, place_of}
use Rattle.lineage_model.specs.Flow.{Byte, Register, Slot, Memory, or_else, received_byte, when}
use Rattle.lineage_model.specs.Tracking.{gather}
use Rattle.taint_events.specs.Bytes.{AreReceived}
use Rattle.taint_state.specs.Goes.{AreApart}
use Rattle.taint_state.specs.Events.{plain_heard, sees}
use Rattle.taint_state.specs.EventsShow.{ReceivesShow}
use Rattle.taint_state.specs.Kept.{KeptMember, items_of, shown, shown_member}
use Rattle.taint_state.specs.Shown.{AreItems, ShowsMember}
use Rattle.taint_state.specs.Sound.{IsSoundMember}
use Rattle.taint_state.specs.Steps.{holders_of}
use Rattle.taint_state.proofs.Keeping.{follows, good-received, old-sound, plain-sound, received-sound, sharers-sound, zero-later}
use Rattle.taint_state.proofs.Flows.{Setting, Takes, given, kept, of-received, row-cleared, shown-before, sound-before, then, writes}
use Rattle.taint_state.proofs.Goings.{goes, held-before, plain-points, self-test, setting}
use Rattle.taint_state.proofs.Seeing.{holders-still, members-seen-by, sees-shows, some-inj}
use Rattle.taint_state.proofs.Reading.{private-bounds, shared-bounds}
use Rattle.taint_state.proofs.Receiving.{Lands, Nowhere, InWindow, InSegment, OffsetsTo, elsewhere, item-items, lands, nowhere, where-lands}

pub window-inside : (a count : ℕ) → is_private a ≡ true → count ≡ WINDOW_LEN → a - WINDOW_START < count
window-inside a count h e = let bounds = private-bounds a h in let above = bounds.0 in let below = bounds.1 in omega arith

segment-inside : (a count : ℕ) → is_shared a ≡ true → count ≡ SEGMENT_LEN → a - SEGMENT_START < count
segment-inside a count h e = let bounds = shared-bounds a h in let above = bounds.0 in let below = bounds.1 in omega arith

module _ (s : Setting) (pid at len : ℕ) (numbers : List ℕ) (old new : KeptMember) (place : Option Place) (to : OffsetsTo s place len) (apart : AreApart (holders_of (shown s.x)))
    (was : nth s.x.members pid ≡ Some old) (received : AreReceived s.y.sets s.event.number len numbers) (had : ShowsMember pid s.t (shown_member s.x old)) (sound : IsSoundMember s.x.sets old) where
  held : holders_of (shown s.x) pid ≡ Some old.holds
  held = held-before s.x pid old was

  own-window : Lands at numbers place old new → (a : ℕ) → IsTrue (is_private a) → Takes s (slice_index new.window (a - WINDOW_START)) (Memory old.holds.window a)
  own-window (Nowhere is w g) a h =
      subst (λ n. Takes s n (Memory old.holds.window a)) (sym (w (a - WINDOW_START)))
      (kept s _ (Memory old.holds.window a) (sound.window _) (had.window a h) (nowhere s len old.holds.window a place to is))
  own-window (InWindow p is puts same) a h =
      lands s old.holds.window WINDOW_START at len a place numbers old.window new.window to is (private-bounds at p).0 (private-bounds a h).0 (window-inside a (length old.window) h sound.window_whole)
      puts received (sound.window _) (had.window a h)
  own-window (InSegment made p holds is puts same) a h =
      subst (λ l. Takes s (slice_index l (a - WINDOW_START)) (Memory old.holds.window a)) (sym same)
      (kept s _ (Memory old.holds.window a) (sound.window _) (had.window a h)
      (elsewhere s at len made old.holds.window a place to is (λ e. apart.kinds pid pid old.holds old.holds held held (holds ∙ ap (λ (k : ℕ). Some k) e))))

  own-segment : Lands at numbers place old new → (m a : ℕ) → old.holds.segment ≡ Some m → IsTrue (is_shared a) → Takes s (slice_index new.segment (a - SEGMENT_START)) (Memory m a)
  own-segment (Nowhere is w g) m a has h =
      subst (λ n. Takes s n (Memory m a)) (sym (g (a - SEGMENT_START))) (kept s _ (Memory m a) (sound.segment _) (had.segment m a has h) (nowhere s len m a place to is))
  own-segment (InWindow p is puts same) m a has h =
      subst (λ l. Takes s (slice_index l (a - SEGMENT_START)) (Memory m a)) (sym same)
      (kept s _ (Memory m a) (sound.segment _) (had.segment m a has h)
      (elsewhere s at len old.holds.window m a place to is (λ e. apart.kinds pid pid old.holds old.holds held held (has ∙ ap (λ (k : ℕ). Some k) (sym e)))))
  own-segment (InSegment made p holds is puts same) m a has h =
      subst (λ q. Takes s (slice_index new.segment (a - SEGMENT_START)) (Memory q a)) (some-inj made m (sym holds ∙ has))
      (lands s made SEGMENT_START at len a place numbers old.segment new.segment to is (shared-bounds at p).0 (shared-bounds a h).0 (segment-inside a (length old.segment) h (sound.segment_whole made holds))
      puts received (sound.segment _) (had.segment made a holds h))

  other-window : Lands at numbers place old new → (p : ℕ) (other : KeptMember) → nth s.x.members p ≡ Some other → other.holds.window ≢ old.holds.window → (a : ℕ) → writes s (Memory other.holds.window a) ≡ None
  other-window (Nowhere is w g) p other e ne a = nowhere s len other.holds.window a place to is
  other-window (InWindow h is puts same) p other e ne a = elsewhere s at len old.holds.window other.holds.window a place to is (λ q. ne (sym q))
  other-window (InSegment made h holds is puts same) p other e ne a =
      elsewhere s at len made other.holds.window a place to is (λ q. apart.kinds p pid other.holds old.holds (held-before s.x p other e) held (holds ∙ ap (λ (k : ℕ). Some k) q))

  other-segment : Lands at numbers place old new → (p : ℕ) (other : KeptMember) → nth s.x.members p ≡ Some other → (m a : ℕ) → other.holds.segment ≡ Some m → old.holds.segment ≢ Some m → writes s (Memory m a) ≡ None
  other-segment (Nowhere is w g) p other e m a has differs = nowhere s len m a place to is
  other-segment (InWindow h is puts same) p other e m a has differs =
      elsewhere s at len old.holds.window m a place to is (λ q. apart.kinds pid p old.holds other.holds held (held-before s.x p other e) (has ∙ ap (λ (k : ℕ). Some k) (sym q)))
  other-segment (InSegment made h holds is puts same) p other e m a has differs =
      elsewhere s at len made m a place to is (λ q. differs (holds ∙ ap (λ (k : ℕ). Some k) q))

  -- a member that acts not
  pub other-member : Lands at numbers place old new → ShowsMember pid (then s) (shown_member s.y new) → new.holds ≡ old.holds → (p : ℕ) (other : KeptMember) → nth s.x.members p ≡ Some other
      → ((r i : ℕ) → writes s (Register p r i) ≡ None) → ((r i : ℕ) → writes s (Slot p r i) ≡ None)
      → ShowsMember p (then s) (shown_member s.y (sees new other))
  other-member l own holds p other e registers slot =
      let before = shown-before s p other e in
      let sets = sound-before s p other e in
      sees-shows s.y (then s) p pid new other own
      (λ r i is. kept s _ (Register p r i) (sets.registers r i is) (before.registers r i is) (registers r i))
      (λ r i is. kept s _ (Slot p r i) (sets.slot r i is) (before.slot r i is) (slot r i))
      (λ ne a is. kept s _ (Memory other.holds.window a) (sets.window _) (before.window a is) (other-window l p other e (λ q. ne (q ∙ ap (λ (h : Holds). h.window) (sym holds))) a))
      (λ m a has ne is. kept s _ (Memory m a) (sets.segment _) (before.segment m a has is) (other-segment l p other e m a has (λ q. ne (ap (λ (h : Holds). h.segment) holds ∙ q))))

pub receives-show : ReceivesShow
receives-show x y pid number e before at len old new numbers sound count received to becomes =
    let heard = plain_heard number numbers in
    let place = place_of old.holds at len in
    let tr = Receives pid place len in
    let holds : new.holds ≡ old.holds = ap (λ (m : KeptMember). m.holds) to.others in
    let l = where-lands at len numbers old new received.len to in
    follows _ x y
    (sharers-sound x y pid old new heard sound becomes (received-sound y.sets at numbers old new (zero-later x y sound becomes.stays.sets) (good-received y.sets (zero-later x y sound becomes.stays.sets) number len numbers received) to (old-sound x y pid old sound becomes.stays.sets becomes.was)) (plain-sound y.sets number numbers (good-received y.sets (zero-later x y sound becomes.stays.sets) number len numbers received)))
    (goes x y pid number e before tr heard sound becomes.stays becomes.heard refl (received.len ∙ count) refl (λ h k. refl)
    (holders-still x y pid old new becomes.was becomes.members holds)
    (λ clear possible t shows.
    let s = setting x y pid number e before tr heard sound becomes.stays t shows in
    let had = shown-before s pid old becomes.was in
    let sets = sound-before s pid old becomes.was in
    let own : ShowsMember pid (then s) (shown_member y new) =
    subst (λ m. ShowsMember pid (then s) (shown_member y m)) (sym to.others) (record {
      registers = row-cleared s pid old.registers new.registers (λ b. or_else (when b []) None) refl refl (λ r i. ap (λ b. or_else (when (b && (r == 10)) []) None) (self-test pid)) to.result sets.registers had.registers;
      slot = λ r i is. kept s _ (Slot pid r i) (sets.slot r i is) (had.slot r i is) refl;
      window = λ a is. own-window s pid at len numbers old new place (λ made a. refl) clear becomes.was received had sets l a is;
      segment = λ made a has is. own-segment s pid at len numbers old new place (λ made a. refl) clear becomes.was received had sets l made a has is;
    }) in (
      members-seen-by y x (then s) pid new becomes.members own
          (λ p other ne was. other-member s pid at len numbers old new place (λ made a. refl) clear becomes.was received had sets l own holds p other was
          (λ r i. ap (λ b. or_else (when (b && (r == 10)) []) None) (ne_eqb p pid ne)) (λ r i. refl)),
      plain-points s number numbers (λ k below.
          let inside = subst (λ n. k < n) received.len below in
          subst (λ b. AreItems (items_of y (slice_index numbers k)) (gather (given s) t.locations (cond b (received_byte k) []))) (sym (lt-ltb k len inside))
          (of-received s (slice_index numbers k) (Byte k) (item-items s k (slice_index numbers k) (received.items k inside)))),
    )))

-- What a write does to the memories that are kept of a member.
use Rattle.std.proofs.Common.{◌≡◌, ◌≢◌, ℕ, ◌-◌, Bool, true, false, if◌then◌else◌, List, Option, Some, None, IfSome, option_map, refl, sym, ap, arith}
use Rattle.parts_model.specs.declared.limits.TheConstants.{WINDOW_START, SEGMENT_START}
use Rattle.acts_model.specs.Transfers.{is_private, is_shared}
use Rattle.taint_members.specs.Access.{ByTest, HasTwoKeys, Memories, Writes, WritesAt, held_numbers, segment_place, window_numbers}
use Rattle.taint_members.specs.declared.access.KeyOffset.{KeyOffset}
use Rattle.taint_members.specs.declared.member.Held.{Held}
use Rattle.taint_members.specs.declared.member.MemberSets.{MemberSets}
use Rattle.taint_pages.specs.Pages.{Puts}
use Rattle.taint_steps.specs.Running.{Stores}
use Rattle.taint_state.specs.Events.{WritesHeld}
use Rattle.taint_state.proofs.Taken.{private-range, shared-range}

abbrev pub made_of : Option Held → Option ℕ
made_of o = option_map (λ (held : Held). held.made) o

-- a window has other numbers from an address on, where the address lies in it
abbrev pub PutsWindow : ℕ → List ℕ → List ℕ → List ℕ → Type 0
PutsWindow at numbers old new = ByTest (is_private at) (Puts (at - WINDOW_START) numbers old new) (new ≡ old)

-- so has a segment that may be held
abbrev pub PutsSegment : ℕ → List ℕ → Option ℕ → List ℕ → List ℕ → Type 0
PutsSegment at numbers held old new = ByTest (is_shared at) (WritesHeld (at - SEGMENT_START) numbers held old new) (new ≡ old)

abbrev place_by : Bool → Bool → MemberSets → ℕ → Option KeyOffset
place_by p s m at = if p then Some (record { key = m.window.key; offset = at - WINDOW_START }) else if s then segment_place m.segment at else None

pub both-not : (at : ℕ) → is_private at ≡ true → is_shared at ≡ true → ⊥
both-not at p h = let below = (private-range at p).1 in let above = (shared-range at h).0 in omega arith

module _ (at : ℕ) (numbers : List ℕ) (m : MemberSets) (old new : Memories) (two : HasTwoKeys m) where
  window-segment : (o : Option Held) → IfSome o (λ (held : Held). m.window.key ≢ held.key) → WritesAt (segment_place o at) numbers old new → window_numbers m new ≡ window_numbers m old
  window-segment None apart w = ap (λ l. window_numbers m l) w
  window-segment (Some held) apart w = w.others m.window.key apart

  window-by : (p s : Bool) → WritesAt (place_by p s m at) numbers old new → ByTest p (Puts (at - WINDOW_START) numbers (window_numbers m old) (window_numbers m new)) (window_numbers m new ≡ window_numbers m old)
  window-by true s w = w.one
  window-by false true w = window-segment m.segment two w
  window-by false false w = ap (λ l. window_numbers m l) w

  pub window-written : Writes at numbers m old new → PutsWindow at numbers (window_numbers m old) (window_numbers m new)
  window-written w = window-by (is_private at) (is_shared at) w

  segment-own : (o : Option Held) → WritesAt (segment_place o at) numbers old new → WritesHeld (at - SEGMENT_START) numbers (made_of o) (held_numbers o old) (held_numbers o new)
  segment-own None w = refl
  segment-own (Some held) w = w.one

  segment-same : (o : Option Held) → new ≡ old → held_numbers o new ≡ held_numbers o old
  segment-same o w = ap (λ l. held_numbers o l) w

  segment-apart : (o : Option Held) → IfSome o (λ (held : Held). m.window.key ≢ held.key) → ((k : ℕ) → k ≢ m.window.key → held_numbers (Some (record { made = 0; key = k })) new ≡ held_numbers (Some (record { made = 0; key = k })) old)
      → held_numbers o new ≡ held_numbers o old
  segment-apart None apart others = refl
  segment-apart (Some held) apart others = others held.key (λ e. apart (sym e))

  segment-by : (p s : Bool) → is_private at ≡ p → is_shared at ≡ s → WritesAt (place_by p s m at) numbers old new
      → ByTest s (WritesHeld (at - SEGMENT_START) numbers (made_of m.segment) (held_numbers m.segment old) (held_numbers m.segment new)) (held_numbers m.segment new ≡ held_numbers m.segment old)
  segment-by true true e f w = absurd (both-not at e f)
  segment-by true false e f w = segment-apart m.segment two w.others
  segment-by false true e f w = segment-own m.segment w
  segment-by false false e f w = segment-same m.segment w

  pub segment-written : Writes at numbers m old new → PutsSegment at numbers (made_of m.segment) (held_numbers m.segment old) (held_numbers m.segment new)
  segment-written w = segment-by (is_private at) (is_shared at) refl refl w

-- the same of what an instruction stores, if it does
abbrev pub StoresWindow : Option ℕ → List ℕ → List ℕ → List ℕ → Type 0
StoresWindow None numbers old new = new ≡ old
StoresWindow (Some at) numbers old new = PutsWindow at numbers old new

abbrev pub StoresSegment : Option ℕ → List ℕ → Option ℕ → List ℕ → List ℕ → Type 0
StoresSegment None numbers held old new = new ≡ old
StoresSegment (Some at) numbers held old new = PutsSegment at numbers held old new

pub window-stored : (acc : Option ℕ) (numbers : List ℕ) (m : MemberSets) (old new : Memories) → HasTwoKeys m → Stores acc numbers m old new → StoresWindow acc numbers (window_numbers m old) (window_numbers m new)
window-stored None numbers m old new two w = ap (λ l. window_numbers m l) w
window-stored (Some at) numbers m old new two w = window-written at numbers m old new two w

pub segment-stored : (acc : Option ℕ) (numbers : List ℕ) (m : MemberSets) (old new : Memories) → HasTwoKeys m → Stores acc numbers m old new
    → StoresSegment acc numbers (made_of m.segment) (held_numbers m.segment old) (held_numbers m.segment new)
segment-stored None numbers m old new two w = ap (λ l. held_numbers m.segment l) w
segment-stored (Some at) numbers m old new two w = segment-written at numbers m old new two w

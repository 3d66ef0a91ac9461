-- What is kept of a member that receives bytes.
use Rattle.std.proofs.Common.{◌≡◌, ◌≢◌, ℕ, ◌-◌, ◌&&◌, nat_le, nat_lt, cond, Bool, true, false, List, Option, Some, None, IfSome, option_map, refl, sym, ap, subst, ◌∙◌, arith}
use Rattle.std.proofs.lemmas.Bool.{leb-true, ltb-true}
use Rattle.parts_model.specs.declared.limits.TheConstants.{SEGMENT_END, SEGMENT_START, WINDOW_END, WINDOW_START}
use Rattle.acts_model.specs.Transfers.{is_private, is_shared}
use Rattle.taint_members.specs.Access.{ByTest, HasTwoKeys, Memories, WritesAt, held_numbers, segment_place, window_numbers}
use Rattle.taint_members.specs.declared.access.KeyOffset.{KeyOffset}
use Rattle.taint_members.specs.declared.member.Held.{Held}
use Rattle.taint_members.specs.declared.member.MemberSets.{MemberSets}
use Rattle.taint_pages.specs.Pages.{Puts}
use Rattle.taint_state.specs.Events.{ReceivesTo, WritesHeld}
use Rattle.taint_state.specs.RunsShow.{kept_member}
use Rattle.taint_group.specs.Moves.{Receives}

abbrev made_of : Option Held → Option ℕ
made_of o = option_map (λ (held : Held). held.made) o

both-true : (a b : Bool) → (a && b) ≡ true → (a ≡ true) × (b ≡ true)
both-true true true h = (refl, refl)
both-true true false h = cc
both-true false b h = cc

both-not : (at : ℕ) → is_private at ≡ true → is_shared at ≡ true → ⊥
both-not at p h =
    let below = ltb-true at WINDOW_END (both-true (nat_le WINDOW_START at) (nat_lt at WINDOW_END) p).1 in
    let above = leb-true SEGMENT_START at (both-true (nat_le SEGMENT_START at) (nat_lt at SEGMENT_END) h).0 in
    omega arith

abbrev place_by : Bool → Bool → MemberSets → ℕ → Option KeyOffset
place_by p s m at = cond p (Some (record { key = m.window.key; offset = at - WINDOW_START })) (cond s (segment_place m.segment at) None)

module _ (at : ℕ) (numbers : List ℕ) (m : MemberSets) (old new : Memories) (two : HasTwoKeys m) where
  window-segment : (o : Option Held) → IfSome o (λ (held : Held). m.window.key ≢ held.key) → WritesAt (segment_place o at) numbers old new → window_numbers m new ≡ window_numbers m old
  window-segment None apart w = ap (λ l. window_numbers m l) w
  window-segment (Some held) apart w = w.others m.window.key apart

  window-by : (p s : Bool) → WritesAt (place_by p s m at) numbers old new → ByTest p (Puts (at - WINDOW_START) numbers (window_numbers m old) (window_numbers m new)) (window_numbers m new ≡ window_numbers m old)
  window-by true s w = w.one
  window-by false true w = window-segment m.segment two w
  window-by false false w = ap (λ l. window_numbers m l) w

  segment-own : (o : Option Held) → WritesAt (segment_place o at) numbers old new → WritesHeld (at - SEGMENT_START) numbers (made_of o) (held_numbers o old) (held_numbers o new)
  segment-own None w = refl
  segment-own (Some held) w = w.one

  segment-apart : (o : Option Held) → IfSome o (λ (held : Held). m.window.key ≢ held.key) → ((k : ℕ) → k ≢ m.window.key → held_numbers (Some (record { made = 0; key = k })) new ≡ held_numbers (Some (record { made = 0; key = k })) old)
      → held_numbers o new ≡ held_numbers o old
  segment-apart None apart others = refl
  segment-apart (Some held) apart others = others held.key (λ e. apart (sym e))

  segment-by : (p s : Bool) → is_private at ≡ p → is_shared at ≡ s → WritesAt (place_by p s m at) numbers old new
      → ByTest s (WritesHeld (at - SEGMENT_START) numbers (made_of m.segment) (held_numbers m.segment old) (held_numbers m.segment new)) (held_numbers m.segment new ≡ held_numbers m.segment old)
  segment-by true true e f w = absurd (both-not at e f)
  segment-by true false e f w = segment-apart m.segment two w.others
  segment-by false true e f w = segment-own m.segment w
  segment-by false false e f w = ap (λ l. held_numbers m.segment l) w

-- what is written of a member for bytes that it receives is what is kept of it
pub receives-kept : (at : ℕ) (numbers : List ℕ) (old new : MemberSets) (before after : Memories) → HasTwoKeys old → Receives at numbers old new before after
    → ReceivesTo at numbers (kept_member before old) (kept_member after new)
receives-kept at numbers old new before after two w =
    of (record old { registers = new.registers }) w.others refl refl refl
  where
    of : (n : MemberSets) → new ≡ n → n.window ≡ old.window → n.segment ≡ old.segment → n.slot ≡ old.slot → ReceivesTo at numbers (kept_member before old) (kept_member after new)
    of n e f g h =
        let window : new.window ≡ old.window = ap (λ (m : MemberSets). m.window) e ∙ f in
        let segment : new.segment ≡ old.segment = ap (λ (m : MemberSets). m.segment) e ∙ g in
        let new_window = ap (λ (h : Held). window_numbers (record old { window = h }) after) window in
        let new_segment = ap (λ (o : Option Held). held_numbers o after) segment in
        record {
          result = w.result;
          window = subst (λ l. ByTest (is_private at) (Puts (at - WINDOW_START) numbers (window_numbers old before) l) (l ≡ window_numbers old before)) (sym new_window) (window-by at numbers old before after two (is_private at) (is_shared at) w.memory);
          segment = subst (λ l. ByTest (is_shared at) (WritesHeld (at - SEGMENT_START) numbers (made_of old.segment) (held_numbers old.segment before) l) (l ≡ held_numbers old.segment before)) (sym new_segment) (segment-by at numbers old before after two (is_private at) (is_shared at) refl refl w.memory);
          others = ap (kept_member after) w.others ∙ (ap (λ l. record (kept_member before old) { registers = new.registers; window = l; segment = held_numbers old.segment after }) (sym new_window)
              ∙ ap (λ l. record (kept_member before old) { registers = new.registers; window = window_numbers new after; segment = l }) (sym new_segment));
        }

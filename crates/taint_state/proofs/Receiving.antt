-- Bytes that a member receives.
use Rattle.std.proofs.Common.{◌≡◌, ◌≢◌, ◌⊎◌, inl, inr, ℕ, ◌+◌, ◌-◌, ◌<◌, ◌≤◌, ◌==◌, ◌&&◌, nat_le, nat_lt, cond, Bool, true, false, List, [], ◌∷◌, length, slice_index, Option, Some, None, option_map, refl, sym, ap, subst, ◌∙◌, ne_eqb, arith}
use Rattle.std.proofs.lemmas.Bool.{eq-eqb, eqb-true, leb-true, leb-false, ltb-true, ltb-false}
use Rattle.parts_model.specs.declared.limits.TheConstants.{WINDOW_START, SEGMENT_START}
use Rattle.taint_spans.specs.Numbered.{IsItem, IsSet}
use Rattle.acts_model.specs.Moved.{within}
use Rattle.acts_model.specs.Transfers.{Place, is_private, is_shared, place_of}
use Rattle.lineage_model.specs.Flow.{Byte, Memory, offset, received_byte}
use Rattle.taint_events.specs.Bytes.{AreReceived}
use Rattle.taint_members.specs.Access.{ByTest}
use Rattle.taint_pages.specs.Pages.{Puts}
use Rattle.taint_state.specs.Events.{ReceivesTo, WritesHeld}
use Rattle.taint_state.specs.Kept.{KeptMember, items_of}
use Rattle.taint_state.proofs.Flows.{Had, Setting, Takes, kept, taken, writes}
use Rattle.taint_state.proofs.Reading.{place-is, private-bounds, shared-bounds}

not-both : (a b : Bool) → (a && b) ≡ false → (a ≡ false) ⊎ (b ≡ false)
not-both true b h = inr h
not-both false b h = inl refl

both : (a b : Bool) → (a && b) ≡ true → (a ≡ true) × (b ≡ true)
both true true h = (refl, refl)
both true false h = absurd (cc)
both false b h = absurd (cc)

module _ (s : Setting) where
  -- a received byte is an item by itself
  pub item-items : (k n : ℕ) → IsItem s.y.sets s.event.number k n → items_of s.y n ≡ record { event = s.event.number; at = k } ∷ []
  item-items k n is = is.members

  abbrev pub OffsetsTo : Option Place → ℕ → Type 0
  OffsetsTo place len = (made a : ℕ) → writes s (Memory made a) ≡ option_map received_byte (offset place len made a)

  -- a byte of another memory
  pub elsewhere : (at len : ℕ) (there made a : ℕ) (place : Option Place) → OffsetsTo place len → place ≡ Some (record { made = there; at = at }) → there ≢ made → writes s (Memory made a) ≡ None
  elsewhere at len there made a place to is apart =
      to made a ∙ (ap (λ p. option_map received_byte (offset p len made a)) is
      ∙ ap (λ b. option_map received_byte (cond b (within at len a) None)) (ne_eqb there made apart))

  pub nowhere : (len made a : ℕ) (place : Option Place) → OffsetsTo place len → place ≡ None → writes s (Memory made a) ≡ None
  nowhere len made a place to is = to made a ∙ ap (λ p. option_map received_byte (offset p len made a)) is

  -- a byte of the memory to which they come
  pub lands : (made start at len a : ℕ) (place : Option Place) (numbers old new : List ℕ) → OffsetsTo place len → place ≡ Some (record { made = made; at = at })
      → start ≤ at → start ≤ a → a - start < length old → Puts (at - start) numbers old new → AreReceived s.y.sets s.event.number len numbers
      → IsSet s.x.sets (slice_index old (a - start)) → Had s (slice_index old (a - start)) (Memory made a) → Takes s (slice_index new (a - start)) (Memory made a)
  lands made start at len a place numbers old new to is from above inside puts received raw had = by_tests (nat_le at a && nat_lt a (at + len)) refl
    where
      at_place : (b : Bool) → (nat_le at a && nat_lt a (at + len)) ≡ b → writes s (Memory made a) ≡ option_map received_byte (cond b (Some (a - at)) None)
      at_place b e =
          to made a ∙ (ap (λ p. option_map received_byte (offset p len made a)) is
          ∙ (ap (λ c. option_map received_byte (cond c (within at len a) None)) (eq-eqb made made refl) ∙ ap (λ c. option_map received_byte (cond c (Some (a - at)) None)) e))

      outside : (nat_le at a ≡ false) ⊎ (nat_lt a (at + len) ≡ false) → (a - start < at - start) ⊎ (at - start + length numbers ≤ a - start)
      outside (inl e) = inl (let less = leb-false at a e in omega arith)
      outside (inr e) = inr (let more = ltb-false a (at + len) e in let count = received.len in omega arith)

      by_tests : (b : Bool) → (nat_le at a && nat_lt a (at + len)) ≡ b → Takes s (slice_index new (a - start)) (Memory made a)
      by_tests true e =
          let parts = both (nat_le at a) (nat_lt a (at + len)) e in
          let more = leb-true at a parts.0 in
          let less = ltb-true a (at + len) parts.1 in
          let below : a - at < len = omega arith in
          let count = received.len in
          let listed : a - at < length numbers = omega arith in
          let same : at - start + (a - at) ≡ a - start = omega arith in
          let fits : at - start + (a - at) < length old = subst (λ j. j < length old) (sym same) inside in
          let number = sym (ap (λ j. slice_index new j) same) ∙ puts.put (a - at) listed fits in
          taken s (slice_index new (a - start)) (Memory made a) (Byte (a - at)) (ap (items_of s.y) number ∙ item-items (a - at) (slice_index numbers (a - at)) (received.items (a - at) below)) (at_place true e)
      by_tests false e =
          let number = puts.kept (a - start) (outside (not-both (nat_le at a) (nat_lt a (at + len)) e)) in
          subst (λ n. Takes s n (Memory made a)) (sym number) (kept s (slice_index old (a - start)) (Memory made a) raw had (at_place false e))

-- where received bytes come to
pub data Lands (at : ℕ) (numbers : List ℕ) (place : Option Place) (old new : KeptMember) : Type 0 where
  Nowhere : place ≡ None → ((k : ℕ) → slice_index new.window k ≡ slice_index old.window k) → ((k : ℕ) → slice_index new.segment k ≡ slice_index old.segment k) → Lands at numbers place old new
  InWindow : is_private at ≡ true → place ≡ Some (record { made = old.holds.window; at = at }) → Puts (at - WINDOW_START) numbers old.window new.window → new.segment ≡ old.segment → Lands at numbers place old new
  InSegment : (made : ℕ) → is_shared at ≡ true → old.holds.segment ≡ Some made → place ≡ Some (record { made = made; at = at }) → Puts (at - SEGMENT_START) numbers old.segment new.segment → new.window ≡ old.window
      → Lands at numbers place old new

by-true : (b : Bool) (A B : Type 0) → b ≡ true → ByTest b A B → A
by-true b A B e h = subst (λ t. ByTest t A B) e h

by-false : (b : Bool) (A B : Type 0) → b ≡ false → ByTest b A B → B
by-false b A B e h = subst (λ t. ByTest t A B) e h

-- no bytes
puts-none : (at : ℕ) (numbers old new : List ℕ) → length numbers ≡ 0 → Puts at numbers old new → (k : ℕ) → slice_index new k ≡ slice_index old k
puts-none at numbers old new none puts k = puts.kept k (side (nat_lt k at) refl)
  where
    side : (b : Bool) → nat_lt k at ≡ b → (k < at) ⊎ (at + length numbers ≤ k)
    side true e = inl (ltb-true k at e)
    side false e = inr (let more = ltb-false k at e in omega arith)

both-kinds : (at : ℕ) → is_private at ≡ true → is_shared at ≡ true → ⊥
both-kinds at p h = let below = (private-bounds at p).1 in let above = (shared-bounds at h).0 in omega arith

pub where-lands : (at len : ℕ) (numbers : List ℕ) (old new : KeptMember) → length numbers ≡ len → ReceivesTo at numbers old new → Lands at numbers (place_of old.holds at len) old new
where-lands at len numbers old new count to = by_tests (len == 0) (is_private at) (is_shared at) refl refl refl
  where
    InIt : Type 0
    InIt = Puts (at - WINDOW_START) numbers old.window new.window

    InHeld : Type 0
    InHeld = WritesHeld (at - SEGMENT_START) numbers old.holds.segment old.segment new.segment

    held_none : length numbers ≡ 0 → (o : Option ℕ) → WritesHeld (at - SEGMENT_START) numbers o old.segment new.segment → (k : ℕ) → slice_index new.segment k ≡ slice_index old.segment k
    held_none none None h k = ap (λ l. slice_index l k) h
    held_none none (Some made) h k = puts-none (at - SEGMENT_START) numbers old.segment new.segment none h k

    none_window : length numbers ≡ 0 → (b : Bool) → ByTest b InIt (new.window ≡ old.window) → (k : ℕ) → slice_index new.window k ≡ slice_index old.window k
    none_window none true h k = puts-none (at - WINDOW_START) numbers old.window new.window none h k
    none_window none false h k = ap (λ l. slice_index l k) h

    none_segment : length numbers ≡ 0 → (b : Bool) → ByTest b InHeld (new.segment ≡ old.segment) → (k : ℕ) → slice_index new.segment k ≡ slice_index old.segment k
    none_segment none true h k = held_none none old.holds.segment h k
    none_segment none false h k = ap (λ l. slice_index l k) h

    in_segment : (o : Option ℕ) → old.holds.segment ≡ o → (len == 0) ≡ false → is_private at ≡ false → is_shared at ≡ true → WritesHeld (at - SEGMENT_START) numbers o old.segment new.segment
        → Lands at numbers (place_of old.holds at len) old new
    in_segment None held n p h w =
        Nowhere (place-is old.holds at len false false true n p h ∙ ap (λ o. option_map (λ (made : ℕ). record { made = made; at = at }) o) held)
        (λ k. ap (λ l. slice_index l k) (by-false (is_private at) InIt (new.window ≡ old.window) p to.window)) (λ k. ap (λ l. slice_index l k) w)
    in_segment (Some made) held n p h w =
        InSegment made h held (place-is old.holds at len false false true n p h ∙ ap (λ o. option_map (λ (m : ℕ). record { made = m; at = at }) o) held)
        w (by-false (is_private at) InIt (new.window ≡ old.window) p to.window)

    by_tests : (none private shared : Bool) → (len == 0) ≡ none → is_private at ≡ private → is_shared at ≡ shared → Lands at numbers (place_of old.holds at len) old new
    by_tests true private shared n p h =
        let empty : length numbers ≡ 0 = count ∙ eqb-true len 0 n in
        Nowhere (place-is old.holds at len true private shared n p h) (none_window empty (is_private at) to.window) (none_segment empty (is_shared at) to.segment)
    by_tests false true true n p h = absurd (both-kinds at p h)
    by_tests false true false n p h =
        InWindow p (place-is old.holds at len false true false n p h) (by-true (is_private at) InIt (new.window ≡ old.window) p to.window)
        (by-false (is_shared at) InHeld (new.segment ≡ old.segment) h to.segment)
    by_tests false false true n p h =
        in_segment old.holds.segment refl n p h (by-true (is_shared at) InHeld (new.segment ≡ old.segment) h to.segment)
    by_tests false false false n p h =
        Nowhere (place-is old.holds at len false false false n p h)
        (λ k. ap (λ l. slice_index l k) (by-false (is_private at) InIt (new.window ≡ old.window) p to.window))
        (λ k. ap (λ l. slice_index l k) (by-false (is_shared at) InHeld (new.segment ≡ old.segment) h to.segment))

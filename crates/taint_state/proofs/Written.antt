-- Which bytes an instruction's store writes, and with which numbers.
use Rattle.std.proofs.Common.{◌≡◌, ◌≢◌, ℕ, ◌+◌, ◌-◌, ◌<◌, ◌≤◌, ◌==◌, ◌&&◌, nat_le, nat_lt, Bool, true, false, if◌then◌else◌, List, length, take, slice_index, Option, Some, None, option_map, option_and_then, refl, sym, subst, ap, ◌∙◌, inl, inr, arith}
use Rattle.std.proofs.lemmas.Bool.{eqb-true, eqb-false, leb-true, leb-false, ltb-true, ltb-false}
use Rattle.std.proofs.lemmas.List.{get_or-take, length-take-le}
use Rattle.parts_model.specs.declared.limits.TheConstants.{WINDOW_START, SEGMENT_START}
use Rattle.acts_model.specs.Moved.{within}
use Rattle.acts_model.specs.Transfers.{Holds, Place, is_private, is_shared, place_at}
use Rattle.lineage_model.specs.Flow.{offset}
use Rattle.taint_members.specs.Access.{ByTest}
use Rattle.taint_pages.specs.Pages.{Puts}
use Rattle.taint_state.proofs.Stored.{PutsSegment, StoresSegment, StoresWindow}
use Rattle.taint_state.proofs.Taken.{private-range, shared-range}

-- a byte's number after a store: that of byte k of what is stored, or what it was
abbrev pub ByOffset : List ℕ → Option ℕ → ℕ → ℕ → Type 0
ByOffset numbers None new old = new ≡ old
ByOffset numbers (Some k) new old = (k < 8) × (new ≡ slice_index numbers k)

pub by-none : (numbers : List ℕ) (o : Option ℕ) (new old : ℕ) → o ≡ None → new ≡ old → ByOffset numbers o new old
by-none numbers o new old e h = subst (λ p. ByOffset numbers p new old) (sym e) h

-- how a test of two goes out
both-false : (a b : Bool) → (a && b) ≡ false → (P : Type 0) → (a ≡ false → P) → (b ≡ false → P) → P
both-false true b h P f g = g h
both-false false b h P f g = f refl

within-before : (a len at : ℕ) → at < a → within a len at ≡ None
within-before a len at h = by_test (nat_le a at) refl
  where
    by_test : (b : Bool) → nat_le a at ≡ b → (if b && nat_lt at (a + len) then Some (at - a) else None) ≡ None
    by_test true e = let above = leb-true a at e in absurd (omega arith)
    by_test false e = refl

within-behind : (a len at : ℕ) → a + len ≤ at → within a len at ≡ None
within-behind a len at h = by_test (nat_le a at && nat_lt at (a + len)) refl
  where
    by_test : (b : Bool) → (nat_le a at && nat_lt at (a + len)) ≡ b → (if b then Some (at - a) else None) ≡ None
    by_test true e =
        elim (nat_le a at) as (λ c. (c && nat_lt at (a + len)) ≡ true → Some (at - a) ≡ None) [
          | true ↦ λ k. (let below = ltb-true at (a + len) k in absurd (omega arith))
          | false ↦ λ k. absurd (cc)
        ] e
    by_test false e = refl

if-none : (b : Bool) (o : Option ℕ) → o ≡ None → (if b then o else None) ≡ None
if-none true o e = e
if-none false o e = refl

module _ (holds : Holds) (a len : ℕ) (few : len ≤ 8) where
  abbrev at_made : ℕ → Place
  at_made made = record { made = made; at = a }

  abbrev where_by : Bool → Bool → Option ℕ → Option Place
  where_by b c s = option_map at_made (if b then Some holds.window else if c then s else None)

  -- an address of a window is written only where the store is one to this window
  private-offset : (made at : ℕ) → is_private at ≡ true
      → offset (place_at holds a) len made at ≡ (if is_private a then (if holds.window == made then within a len at else None) else None)
  private-offset made at inside = by_place (is_private a) (is_shared a) holds.segment refl refl
    where
      by_place : (b c : Bool) (s : Option ℕ) → is_private a ≡ b → is_shared a ≡ c
          → offset (where_by b c s) len made at ≡ (if b then (if holds.window == made then within a len at else None) else None)
      by_place true c s p q = refl
      by_place false true None p q = refl
      by_place false true (Some k) p q =
          let there = private-range at inside in
          let here = shared-range a q in
          if-none (k == made) (within a len at) (within-before a len at (omega arith))
      by_place false false s p q = refl

  -- so is one of a segment
  shared-offset : (made at : ℕ) → is_shared at ≡ true
      → offset (place_at holds a) len made at ≡ (if is_private a then None else if is_shared a then offset (option_map at_made holds.segment) len made at else None)
  shared-offset made at inside = by_place (is_private a) (is_shared a) holds.segment refl refl
    where
      by_place : (b c : Bool) (s : Option ℕ) → is_private a ≡ b → is_shared a ≡ c
          → offset (where_by b c s) len made at ≡ (if b then None else if c then offset (option_map at_made s) len made at else None)
      by_place true c s p q =
          let there = shared-range at inside in
          let here = private-range a p in
          if-none (holds.window == made) (within a len at) (within-behind a len at (omega arith))
      by_place false true None p q = refl
      by_place false true (Some k) p q = refl
      by_place false false s p q = refl

-- what is put from an offset on
puts-by : (numbers : List ℕ) (start a len at : ℕ) (old new : List ℕ) → length numbers ≡ 8 → len ≤ 8 → start ≤ a → start ≤ at → at - start < length old
    → Puts (a - start) (take len numbers) old new → ByOffset numbers (within a len at) (slice_index new (at - start)) (slice_index old (at - start))
puts-by numbers start a len at old new eight few from above inside puts = by_tests (nat_le a at) (nat_lt at (a + len)) refl refl
  where
    count : length (take len numbers) ≡ len
    count = length-take-le len numbers (omega arith)

    by_tests : (b c : Bool) → nat_le a at ≡ b → nat_lt at (a + len) ≡ c
        → ByOffset numbers (if b && c then Some (at - a) else None) (slice_index new (at - start)) (slice_index old (at - start))
    by_tests true true p q =
        let low = leb-true a at p in
        let high = ltb-true at (a + len) q in
        let place : (a - start) + (at - a) ≡ at - start = omega arith in
        let size = count in (
          omega arith,
          ap (slice_index new) (sym place) ∙ puts.put (at - a) (omega arith) (omega arith) ∙ get_or-take len numbers (at - a) 0 (omega arith),
        )
    by_tests true false p q =
        let high = ltb-false at (a + len) q in
        let size = count in
        puts.kept (at - start) (inr (omega arith))
    by_tests false c p q =
        let low = leb-false a at p in
        puts.kept (at - start) (inl (omega arith))

module _ (numbers : List ℕ) (len : ℕ) (eight : length numbers ≡ 8) (few : len ≤ 8) (holds : Holds) where
  -- the member's own window
  pub window-by : (acc : Option ℕ) (at : ℕ) (old new : List ℕ) → StoresWindow acc (take len numbers) old new → is_private at ≡ true → length old ≡ 262144
      → ByOffset numbers (offset (option_and_then (place_at holds) acc) len holds.window at) (slice_index new (at - WINDOW_START)) (slice_index old (at - WINDOW_START))
  window-by None at old new stores inside whole = ap (λ w. slice_index w (at - WINDOW_START)) stores
  window-by (Some a) at old new stores inside whole =
      subst (λ o. ByOffset numbers o (slice_index new (at - WINDOW_START)) (slice_index old (at - WINDOW_START))) (sym (private-offset holds a len few holds.window at inside))
      (by_test (is_private a) (holds.window == holds.window) refl refl stores)
    where
      by_test : (b c : Bool) → is_private a ≡ b → (holds.window == holds.window) ≡ c → ByTest b (Puts (a - WINDOW_START) (take len numbers) old new) (new ≡ old)
          → ByOffset numbers (if b then (if c then within a len at else None) else None) (slice_index new (at - WINDOW_START)) (slice_index old (at - WINDOW_START))
      by_test true true p q s =
          let here = private-range a p in
          let there = private-range at inside in
          puts-by numbers WINDOW_START a len at old new eight few here.0 there.0 (omega arith) s
      by_test true false p q s = absurd (eqb-false holds.window holds.window q refl)
      by_test false c p q s = ap (λ w. slice_index w (at - WINDOW_START)) s

  -- the segment that it holds
  pub segment-by : (acc : Option ℕ) (made at : ℕ) (old new : List ℕ) → holds.segment ≡ Some made → StoresSegment acc (take len numbers) holds.segment old new → is_shared at ≡ true
      → length old ≡ 65536
      → ByOffset numbers (offset (option_and_then (place_at holds) acc) len made at) (slice_index new (at - SEGMENT_START)) (slice_index old (at - SEGMENT_START))
  segment-by None made at old new e stores inside whole = ap (λ w. slice_index w (at - SEGMENT_START)) stores
  segment-by (Some a) made at old new e stores inside whole =
      subst (λ o. ByOffset numbers o (slice_index new (at - SEGMENT_START)) (slice_index old (at - SEGMENT_START))) (sym (shared-offset holds a len few made at inside))
      (subst (λ s. ByOffset numbers (if is_private a then None else if is_shared a then offset (option_map (at_made holds a len few) s) len made at else None) (slice_index new (at - SEGMENT_START)) (slice_index old (at - SEGMENT_START))) (sym e)
      (by_test (is_private a) (is_shared a) (made == made) refl refl refl (subst (λ s. PutsSegment a (take len numbers) s old new) e stores)))
    where
      by_test : (b c d : Bool) → is_private a ≡ b → is_shared a ≡ c → (made == made) ≡ d
          → ByTest c (Puts (a - SEGMENT_START) (take len numbers) old new) (new ≡ old)
          → ByOffset numbers (if b then None else if c then (if d then within a len at else None) else None) (slice_index new (at - SEGMENT_START)) (slice_index old (at - SEGMENT_START))
      by_test true true d p q z s =
          let here = private-range a p in
          let other = shared-range a q in
          absurd (omega arith)
      by_test true false d p q z s = ap (λ k. slice_index k (at - SEGMENT_START)) s
      by_test false true true p q z s =
          let here = shared-range a q in
          let there = shared-range at inside in
          puts-by numbers SEGMENT_START a len at old new eight few here.0 there.0 (omega arith) s
      by_test false true false p q z s = absurd (eqb-false made made z refl)
      by_test false false d p q z s = ap (λ k. slice_index k (at - SEGMENT_START)) s

  -- another window isn't written
  pub other-window : (acc : Option ℕ) (made at : ℕ) → holds.window ≢ made → is_private at ≡ true → offset (option_and_then (place_at holds) acc) len made at ≡ None
  other-window None made at apart inside = refl
  other-window (Some a) made at apart inside = private-offset holds a len few made at inside ∙ by_test (is_private a) (holds.window == made) refl
    where
      by_test : (b c : Bool) → (holds.window == made) ≡ c → (if b then (if c then within a len at else None) else None) ≡ None
      by_test true true e = absurd (apart (eqb-true holds.window made e))
      by_test true false e = refl
      by_test false c e = refl

  -- nor is another segment
  pub other-segment : (acc : Option ℕ) (made at : ℕ) → holds.segment ≢ Some made → is_shared at ≡ true → offset (option_and_then (place_at holds) acc) len made at ≡ None
  other-segment None made at apart inside = refl
  other-segment (Some a) made at apart inside = shared-offset holds a len few made at inside ∙ by_test (is_private a) (is_shared a) holds.segment refl
    where
      by_test : (b c : Bool) (s : Option ℕ) → holds.segment ≡ s → (if b then None else if c then offset (option_map (at_made holds a len few) s) len made at else None) ≡ None
      by_test true c s e = refl
      by_test false true None e = refl
      by_test false true (Some k) e = by_made (k == made) refl
        where
          by_made : (d : Bool) → (k == made) ≡ d → (if d then within a len at else None) ≡ None
          by_made true z = absurd (apart (e ∙ ap Some (eqb-true k made z)))
          by_made false z = refl
      by_test false false s e = refl

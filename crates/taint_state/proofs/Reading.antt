-- Bytes of a member's memories from an address on.
use Rattle.std.proofs.Common.{◌≡◌, ℕ, ◌+◌, ◌-◌, ◌<◌, ◌≤◌, ◌==◌, ◌&&◌, nat_le, nat_lt, cond, Bool, true, false, List, [], ◌∷◌, map, slice_index, Option, Some, None, option_map, refl, sym, ap, subst, ◌∙◌, ne_eqb, arith}
use Rattle.std.proofs.lemmas.Bool.{leb-true, ltb-true}
use Rattle.parts_model.specs.declared.limits.TheConstants.{WINDOW_START, WINDOW_END, SEGMENT_START, SEGMENT_END}
use Rattle.acts_model.specs.Transfers.{Holds, Place, is_private, is_shared, place_of}
use Rattle.lineage_model.specs.Flow.{Location, Memory, Prior, bytes_at}
use Rattle.lineage_model.specs.Tracking.{gather}
use Rattle.taint_spans.specs.Numbered.{IsSet}
use Rattle.taint_state.specs.Events.{number_at}
use Rattle.taint_state.specs.Kept.{KeptMember, items_of}
use Rattle.taint_state.specs.Shown.{AreItems, ShowsMember}
use Rattle.taint_state.specs.Kept.{shown_member}
use Rattle.taint_state.specs.Sound.{IsSoundMember}
use Rattle.taint_state.specs.Steps.{IsWhole}
use Rattle.taint_state.proofs.Flows.{Had, Setting, given, of-nothing, of-prior}

both : (a b : Bool) → (a && b) ≡ true → (a ≡ true) × (b ≡ true)
both true true h = (refl, refl)
both true false h = absurd (cc)
both false b h = absurd (cc)

pub private-bounds : (at : ℕ) → is_private at ≡ true → (WINDOW_START ≤ at) × (at < WINDOW_END)
private-bounds at h = let parts = both (nat_le WINDOW_START at) (nat_lt at WINDOW_END) h in (leb-true WINDOW_START at parts.0, ltb-true at WINDOW_END parts.1)

pub shared-bounds : (at : ℕ) → is_shared at ≡ true → (SEGMENT_START ≤ at) × (at < SEGMENT_END)
shared-bounds at h = let parts = both (nat_le SEGMENT_START at) (nat_lt at SEGMENT_END) h in (leb-true SEGMENT_START at parts.0, ltb-true at SEGMENT_END parts.1)

abbrev pub chosen_memory : Holds → Bool → Bool → Option ℕ
chosen_memory h private shared = cond private (Some h.window) (cond shared h.segment None)

abbrev pub chosen_place : Holds → ℕ → Bool → Bool → Bool → Option Place
chosen_place h at none private shared = cond none None (option_map (λ made. record { made = made; at = at }) (chosen_memory h private shared))

-- where so many bytes lie
pub place-is : (h : Holds) (at len : ℕ) (none private shared : Bool) → (len == 0) ≡ none → is_private at ≡ private → is_shared at ≡ shared → place_of h at len ≡ chosen_place h at none private shared
place-is h at len none private shared n p s =
    ap (λ b. chosen_place h at b (is_private at) (is_shared at)) n ∙ (ap (λ b. chosen_place h at none b (is_shared at)) p ∙ ap (λ b. chosen_place h at none private b) s)

abbrev pub chosen_number : KeptMember → ℕ → ℕ → Bool → Bool → ℕ
chosen_number m at k private shared = cond private (slice_index m.window (at - WINDOW_START + k)) (cond shared (slice_index m.segment (at - SEGMENT_START + k)) 0)

pub number-is : (m : KeptMember) (at k : ℕ) (private shared : Bool) → is_private at ≡ private → is_shared at ≡ shared → number_at m at k ≡ chosen_number m at k private shared
number-is m at k private shared p s = ap (λ b. chosen_number m at k b (is_shared at)) p ∙ ap (λ b. chosen_number m at k private b) s

behind : (start at k : ℕ) → start ≤ at → at + k - start ≡ at - start + k
behind start at k h = omega arith

module _ (s : Setting) (pid : ℕ) (old : KeptMember) (had : ShowsMember pid s.t (shown_member s.x old)) (sound : IsSoundMember s.x.sets old) where
  -- a byte has nothing, or what its location had
  pub data Reads (n : ℕ) (ls : List Location) : Type 0 where
    Nothing : n ≡ 0 → ls ≡ [] → Reads n ls
    Byte : (l : Location) → ls ≡ l ∷ [] → IsSet s.x.sets n → Had s n l → Reads n ls

  pub reads : (at len k : ℕ) → k < len → IsWhole (place_of old.holds at len) len → Reads (number_at old at k) (bytes_at (place_of old.holds at len) k)
  reads at len k below whole = by_tests (is_private at) (is_shared at) refl refl
    where
      some : (len == 0) ≡ false
      some = ne_eqb len 0 (λ (z : len ≡ 0). (omega arith))

      whole_at : (place : Option Place) → place_of old.holds at len ≡ place → IsWhole place len
      whole_at place e = subst (λ p. IsWhole p len) e whole

      in_segment : (o : Option ℕ) → old.holds.segment ≡ o → is_private at ≡ false → is_shared at ≡ true → Reads (number_at old at k) (bytes_at (place_of old.holds at len) k)
      in_segment None held p h =
          Nothing (number-is old at k false true p h ∙ ap (λ (l : List ℕ). slice_index l (at - SEGMENT_START + k)) (sound.unheld held))
          (ap (λ place. bytes_at place k) (place-is old.holds at len false false true some p h ∙ ap (λ o. option_map (λ (made : ℕ). record { made = made; at = at }) o) held))
      in_segment (Some made) held p h =
          let place : place_of old.holds at len ≡ Some (record { made = made; at = at }) = place-is old.holds at len false false true some p h ∙ ap (λ o. option_map (λ (m : ℕ). record { made = m; at = at }) o) held in
          let inside : is_shared (at + k) ≡ true = (whole_at (Some (record { made = made; at = at })) place k below).1 ∙ h in
          let number = number-is old at k false true p h ∙ ap (λ j. slice_index old.segment j) (sym (behind SEGMENT_START at k (shared-bounds at h).0)) in
          Byte (Memory made (at + k)) (ap (λ q. bytes_at q k) place)
          (subst (λ n. IsSet s.x.sets n) (sym number) (sound.segment _))
          (subst (λ n. Had s n (Memory made (at + k))) (sym number) (had.segment made (at + k) held inside))

      by_tests : (private shared : Bool) → is_private at ≡ private → is_shared at ≡ shared → Reads (number_at old at k) (bytes_at (place_of old.holds at len) k)
      by_tests true shared p h =
          let place : place_of old.holds at len ≡ Some (record { made = old.holds.window; at = at }) = place-is old.holds at len false true shared some p h in
          let inside : is_private (at + k) ≡ true = (whole_at (Some (record { made = old.holds.window; at = at })) place k below).0 ∙ p in
          let number = number-is old at k true shared p h ∙ ap (λ j. slice_index old.window j) (sym (behind WINDOW_START at k (private-bounds at p).0)) in
          Byte (Memory old.holds.window (at + k)) (ap (λ q. bytes_at q k) place)
          (subst (λ n. IsSet s.x.sets n) (sym number) (sound.window _))
          (subst (λ n. Had s n (Memory old.holds.window (at + k))) (sym number) (had.window (at + k) inside))
      by_tests false true p h = in_segment old.holds.segment refl p h
      by_tests false false p h = Nothing (number-is old at k false false p h) (ap (λ q. bytes_at q k) (place-is old.holds at len false false false some p h))

  -- and so has one that takes it
  pub of-read : (n : ℕ) (ls : List Location) → Reads n ls → AreItems (items_of s.y n) (gather (given s) s.t.locations (map Prior ls))
  of-read n ls (Nothing zero none) = subst (λ l. AreItems (items_of s.y n) (gather (given s) s.t.locations (map Prior l))) (sym none) (of-nothing s n zero)
  of-read n ls (Byte l is raw h) = subst (λ l. AreItems (items_of s.y n) (gather (given s) s.t.locations (map Prior l))) (sym is) (of-prior s n l raw h)

  -- and one that was given has what it had in memory
  pub of-given : (n number : ℕ) (ls : List Location) → Reads n ls → number ≡ n → AreItems (items_of s.y number) (gather (given s) s.t.locations (map Prior ls))
  of-given n number ls r same = subst (λ k. AreItems (items_of s.y k) (gather (given s) s.t.locations (map Prior ls))) (sym same) (of-read n ls r)

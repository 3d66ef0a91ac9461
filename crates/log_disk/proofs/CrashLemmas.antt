-- What a crash may leave after each call.
use Rattle.std.proofs.Common.{◌≡◌, ◌⊎◌, ℕ, ◌+◌, ◌≤◌, ◌<◌, min, max, List, [], ◌∷◌, ◌++◌, length, take, slice_index, refl, sym, ◌∙◌, inl, inr, arith}
use Rattle.std.proofs.lemmas.Bool.{cases_lt}
use Rattle.std.proofs.lemmas.List.{places, same_lists, ext_get_or, take-take, length-take, length-drop, get_or-take, get_or-drop}
use Rattle.std.specs.Prelude.{Some}
use Rattle.std.specs.List.{All}
use Rattle.std.proofs.lemmas.List.Elements.{All-pop, All-push}
use Rattle.log_disk.specs.declared.ranges.Range.{Range}
use Rattle.arn_base.specs.Disk.{overwrite, Torn, Cut, Follows, NoLess, NoMore, Only}
use Rattle.log_disk.specs.Crash.{Held, Crash, Stays, Covers, durable, shortest, longest}
use Rattle.log_disk.specs.Laws.{Crash-image}
use Rattle.log_disk.specs.Steps.{span, written_to, cut_to}
use Rattle.log_disk.proofs.Patched.{patched, length-patched, slice_index-patched_inside, slice_index-patched_outside}

pub length-overwrite : (image piece : List ℕ) (at : ℕ) → at ≤ length image →
    length (overwrite image at piece) ≡ max (length image) (at + length piece)
length-overwrite image piece at in_range = grind (arith, places)

-- a write keeps each byte outside its range
pub slice_index-overwrite : (image piece : List ℕ) (at k : ℕ) → at ≤ length image →
    (k < at) ⊎ (at + length piece ≤ k) → slice_index (overwrite image at piece) k ≡ slice_index image k
slice_index-overwrite image piece at k in_range (inl before) = grind (arith, places)
slice_index-overwrite image piece at k in_range (inr behind) = grind (arith, places)

-- after a sync that succeeded a crash leaves what is read
pub Crash-durable : (image : List ℕ) → Only image (Crash (durable image))
Crash-durable image bytes crash =
    ext_get_or 0 bytes image (omega (arith, crash.no_shorter, crash.no_longer)) (λ k below. crash.stays k record {
      below = omega (arith, crash.no_shorter, crash.no_longer);
      untouched = λ i d none. absurd (omega arith);
    })

-- and so nothing that it couldn't have left before
pub NoMore-durable : (held : Held) → NoMore (Crash held) (Crash (durable held.image))
NoMore-durable held bytes crash = rw (Crash-durable held.image bytes crash) (Crash-image held)

-- a place lies in a range or outside of it
cases_in : (from to k : ℕ) → ((from ≤ k) × (k < to)) ⊎ ((k < from) ⊎ (to ≤ k))
cases_in from to k =
    elim (cases_lt k from) [
      | inl before ↦ inr (inl before)
      | inr behind ↦ elim (cases_lt k to) [ inl inside ↦ inl (behind, inside) | inr after ↦ inr (inr after) ]
    ]

-- outside of a range is outside of a shorter one
behind : (at n k less : ℕ) → less ≤ n → (k < at) ⊎ (at + n ≤ k) → (k < at) ⊎ (at + less ≤ k)
behind at n k less le (inl before) = inl before
behind at n k less le (inr after) = inr (omega arith)

-- a place outside of a write stays after it
Stays-written : (held : Held) (at n : ℕ) (piece : List ℕ) (k : ℕ) → at ≤ length held.image → Stays held k →
    (k < at) ⊎ (at + n ≤ k) → Stays (written_to (span at n) piece held) k
Stays-written held at n piece k in_range kept outside = record {
  below = omega (arith, length-overwrite held.image piece at in_range, kept.below);
  untouched = All-push (λ range. ¬ Covers range k) held.written (span at n) kept.untouched (λ covered. absurd (omega arith));
}

-- the ranges before the last one don't cover the place, and the last doesn't
untouched-parts : (ranges : List Range) (range : Range) (k : ℕ) → All (λ r. ¬ Covers r k) (ranges ++ range ∷ []) →
    All (λ r. ¬ Covers r k) ranges × ¬ Covers range k
untouched-parts ranges range k h = All-pop (λ r. ¬ Covers r k) (ranges ++ range ∷ []) ranges (Some range) refl h

-- a place that stays after a write stays before it
was_kept : (held : Held) (at n : ℕ) (piece : List ℕ) (k : ℕ) → at ≤ length held.image →
    Stays (written_to (span at n) piece held) k → Stays held k
was_kept held at n piece k in_range kept = record {
  below = omega (arith, kept.below);
  untouched = (untouched-parts held.written (span at n) k kept.untouched).0;
}

-- and lies outside of it
Stays-outside : (held : Held) (at n : ℕ) (piece : List ℕ) (k : ℕ) →
    Stays (written_to (span at n) piece held) k → (k < at) ⊎ (at + n ≤ k)
Stays-outside held at n piece k kept =
    elim (cases_in at (at + n) k) [
      | inl inside ↦ absurd ((untouched-parts held.written (span at n) k kept.untouched).1 inside)
      | inr outside ↦ outside
    ]

-- a crash after a write may leave what one before it might
pub NoLess-written : (held : Held) (at n : ℕ) (piece : List ℕ) → at ≤ length held.image → length piece ≤ n →
    NoLess (Crash held) (Crash (written_to (span at n) piece held))
NoLess-written held at n piece in_range whole bytes crash =
    let size = length-overwrite held.image piece at in_range in
    record {
      no_shorter = omega (arith, size, crash.no_shorter);
      no_longer = omega (arith, size, crash.no_longer);
      stays = λ k kept.
          let before : Stays held k = was_kept held at n piece k in_range kept in
          let outside = Stays-outside held at n piece k kept in
          crash.stays k before ∙ sym (slice_index-overwrite held.image piece at k in_range (behind at n k (length piece) whole outside));
    }

-- and one after a cut
pub NoLess-cut : (held : Held) (len : ℕ) → NoLess (Crash held) (Crash (cut_to len held))
NoLess-cut held len bytes crash =
    let size = length-take len held.image in
    record {
      no_shorter = omega (arith, size, crash.no_shorter);
      no_longer = omega (arith, size, crash.no_longer);
      stays = λ k kept.
          crash.stays k (record { below = omega (arith, size, kept.below); untouched = kept.untouched })
          ∙ sym (get_or-take len held.image k 0 (omega (arith, size, kept.below)));
    }

-- bytes that are patched in a range and cut differ from those that aren't by a torn write
Torn-patched : (image bytes : List ℕ) (at n greatest : ℕ) → at ≤ greatest →
    length bytes ≤ max greatest (at + n) →
    Torn at n (patched image at (at + n) bytes (min greatest (length bytes))) bytes
Torn-patched image bytes at n greatest in_range few =
    let count = min greatest (length bytes) in
    let old = patched image at (at + n) bytes count in
    let size = length-patched image at (at + n) bytes count in
    let outside = slice_index-patched_outside image at (at + n) bytes count in
    record {
      before = ext_get_or 0 _ _ (omega (arith, size, length-take at bytes, length-take at old)) (λ k below.
          let inside : k < min at (length bytes) = omega (arith, length-take at bytes) in
          get_or-take at bytes k 0 (omega arith) ∙ sym (get_or-take at old k 0 (omega arith) ∙ outside k (omega arith) (inl (omega arith))));
      after = ext_get_or 0 _ _ (omega (arith, size, length-drop (at + n) bytes, length-drop (at + n) old)) (λ k below.
          let inside : at + n + k < length bytes = omega (arith, length-drop (at + n) bytes) in
          get_or-drop (at + n) bytes k 0 ∙ sym (get_or-drop (at + n) old k 0 ∙ outside (at + n + k) (omega arith) (inr (omega arith))));
      no_shorter = omega (arith, size);
      no_longer = omega (arith, size);
    }

-- what a crash after a write leaves, without the write
unwritten : Held → ℕ → ℕ → List ℕ → List ℕ
unwritten held at n bytes = patched held.image at (at + n) bytes (min (longest held) (length bytes))

read-unwritten : (held : Held) (at n : ℕ) (piece bytes : List ℕ) (k : ℕ) → at ≤ length held.image →
    length piece ≤ n → Crash (written_to (span at n) piece held) bytes → Stays held k →
    slice_index (unwritten held at n bytes) k ≡ slice_index held.image k
unfolding unwritten
read-unwritten held at n piece bytes k in_range whole crash kept =
    let size = length-overwrite held.image piece at in_range in
    let below : k < min (longest held) (length bytes) = omega (arith, size, kept.below, crash.no_shorter) in
    elim (cases_in at (at + n) k) [
      | inl inside ↦ slice_index-patched_inside held.image at (at + n) bytes _ k below inside.0 inside.1
      | inr outside ↦ slice_index-patched_outside held.image at (at + n) bytes _ k below outside ∙ crash.stays k (Stays-written held at n piece k in_range kept outside) ∙ slice_index-overwrite held.image piece at k in_range (behind at n k (length piece) whole outside)
    ]

Crash-unwritten : (held : Held) (at n : ℕ) (piece bytes : List ℕ) → at ≤ length held.image →
    length piece ≤ n → Crash (written_to (span at n) piece held) bytes → Crash held (unwritten held at n bytes)
unfolding unwritten
Crash-unwritten held at n piece bytes in_range whole crash =
    let size = length-overwrite held.image piece at in_range in
    let len = length-patched held.image at (at + n) bytes (min (longest held) (length bytes)) in
    record {
      no_shorter = omega (arith, len, size, crash.no_shorter);
      no_longer = omega (arith, len);
      stays = λ k kept. read-unwritten held at n piece bytes k in_range whole crash kept;
    }

Torn-unwritten : (held : Held) (at n : ℕ) (piece bytes : List ℕ) → at ≤ length held.image →
    length piece ≤ n → Crash (written_to (span at n) piece held) bytes → Torn at n (unwritten held at n bytes) bytes
unfolding unwritten
Torn-unwritten held at n piece bytes in_range whole crash =
    let size = length-overwrite held.image piece at in_range in
    let few : length bytes ≤ max (longest held) (at + n) = omega (arith, size, crash.no_longer) in
    Torn-patched held.image bytes at n (longest held) (omega arith) few

-- a crash after a write leaves what one before it might have, with the range torn
pub Follows-written : (held : Held) (at n : ℕ) (piece : List ℕ) → at ≤ length held.image → length piece ≤ n →
    Follows (Torn at n) (Crash held) (Crash (written_to (span at n) piece held))
Follows-written held at n piece in_range whole bytes crash =
    (unwritten held at n bytes, Crash-unwritten held at n piece bytes in_range whole crash, Torn-unwritten held at n piece bytes in_range whole crash)

-- what a crash after a cut leaves, without the cut
uncut : Held → ℕ → List ℕ → List ℕ
uncut held len bytes = patched held.image len (longest held) bytes (max (shortest held) (length bytes))

read-uncut : (held : Held) (len : ℕ) (bytes : List ℕ) (k : ℕ) → Crash (cut_to len held) bytes → Stays held k →
    slice_index (uncut held len bytes) k ≡ slice_index held.image k
unfolding uncut
read-uncut held len bytes k crash kept =
    let size = length-take len held.image in
    let count = max (shortest held) (length bytes) in
    let below : k < count = omega (arith, kept.below) in
    elim (cases_lt k len) [
      | inl before ↦ slice_index-patched_outside held.image len (longest held) bytes count k below (inl before) ∙ crash.stays k (record { below = omega (arith, size, kept.below); untouched = kept.untouched }) ∙ get_or-take len held.image k 0 before
      | inr behind ↦ slice_index-patched_inside held.image len (longest held) bytes count k below behind (omega (arith, kept.below))
    ]

Crash-uncut : (held : Held) (len : ℕ) (bytes : List ℕ) → Crash (cut_to len held) bytes →
    Crash held (uncut held len bytes)
unfolding uncut
Crash-uncut held len bytes crash =
    let size = length-take len held.image in
    let count = max (shortest held) (length bytes) in
    let sizes = length-patched held.image len (longest held) bytes count in
    record {
      no_shorter = omega (arith, sizes);
      no_longer = omega (arith, sizes, size, crash.no_longer);
      stays = λ k kept. read-uncut held len bytes k crash kept;
    }

Cut-uncut : (held : Held) (len : ℕ) (bytes : List ℕ) → Crash (cut_to len held) bytes →
    Cut len (uncut held len bytes) bytes
unfolding uncut
Cut-uncut held len bytes crash =
    let size = length-take len held.image in
    let count = max (shortest held) (length bytes) in
    let old = patched held.image len (longest held) bytes count in
    let sizes = length-patched held.image len (longest held) bytes count in
    let few : min (shortest held) len ≤ length bytes = omega (arith, size, crash.no_shorter) in
    record {
      front = ext_get_or 0 _ _ (omega (arith, sizes, length-take len bytes, length-take len old)) (λ k below.
          let inside : k < min len (length bytes) = omega (arith, length-take len bytes) in
          get_or-take len bytes k 0 (omega arith) ∙ sym (get_or-take len old k 0 (omega arith) ∙ slice_index-patched_outside held.image len (longest held) bytes count k (omega arith) (inl (omega arith))));
      no_shorter = omega (arith, sizes, few);
      no_longer = omega (arith, sizes);
    }

-- a crash after a cut leaves what one before it might have, cut short or not
pub Follows-cut : (held : Held) (len : ℕ) → Follows (Cut len) (Crash held) (Crash (cut_to len held))
Follows-cut held len bytes crash =
    (uncut held len bytes, Crash-uncut held len bytes crash, Cut-uncut held len bytes crash)

-- a write of fewer bytes tears the range
pub Torn-overwrite : (image piece : List ℕ) (at n : ℕ) → at ≤ length image → length piece ≤ n →
    Torn at n image (overwrite image at piece)
Torn-overwrite image piece at n in_range whole = record {
  before = same_lists _ _ (grind (arith, places)) (λ k d h. grind (arith, places));
  after = same_lists _ _ (grind (arith, places)) (λ k d h. grind (arith, places));
  no_shorter = omega (arith, length-overwrite image piece at in_range);
  no_longer = omega (arith, length-overwrite image piece at in_range);
}

pub Torn-self : (image : List ℕ) (at n : ℕ) → Torn at n image image
Torn-self image at n = record {
  before = refl;
  after = refl;
  no_shorter = omega arith;
  no_longer = omega arith;
}

pub Cut-self : (image : List ℕ) (len : ℕ) → Cut len image image
Cut-self image len = record { front = refl; no_shorter = omega arith; no_longer = omega arith }

pub Cut-take : (image : List ℕ) (len : ℕ) → Cut len image (take len image)
Cut-take image len = record {
  front = take-take len len image (omega arith);
  no_shorter = omega (arith, length-take len image);
  no_longer = omega (arith, length-take len image);
}

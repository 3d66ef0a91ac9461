-- Writes that are laid over a file's bytes.
use Rattle.std.proofs.Common.{◌≡◌, ℕ, zero, suc, ◌+◌, ◌-◌, ◌<◌, ◌≤◌, max, Bool, true, false, cond, nat_le, List, [], ◌∷◌, ◌++◌, Option, None, Some, option_map, slice_get, length, take, drop, refl, sym, ap, ◌∙◌, arith, append_assoc, length-append, length-drop, length-take-le}
use Rattle.std.proofs.lemmas.Bool.Decides.{nat_tests}
use Rattle.parts_model.specs.declared.tagged.TaggedByte.{TaggedByte}
use Rattle.parts_model.specs.Files.{laid_over}
use Rattle.parts_model.specs.Tagged.{held_from, held_bytes}
use Rattle.acts_model.specs.Records.{Written}
use Rattle.file_versions.specs.Versions.{Write, byte_of, laid_at, or_before, cell_after, reach, onto_filled, filled_from, bytes_after}

-- what a file holds after writes, by place: these bytes, and nothing behind them
pub record Leaves (writes : List Write) (bytes : List TaggedByte) : Type 0 where
  pub cells : (place : ℕ) → cell_after writes place None ≡ slice_get bytes place
  pub end : reach writes ≡ length bytes

-- so they are its bytes
filled-bytes : (cells : ℕ → Option TaggedByte) (place : ℕ) (bytes : List TaggedByte) → ((k : ℕ) → cells (place + k) ≡ slice_get bytes k) → filled_from cells place (length bytes) ≡ bytes
filled-bytes cells place [] same = refl
filled-bytes cells place (b ∷ bytes) same =
    ap (λ (c : Option TaggedByte). onto_filled c (filled_from cells (place + 1) (length bytes))) (ap cells (omega arith) ∙ same 0)
    ∙ ap (λ (held : List TaggedByte). b ∷ held) (filled-bytes cells (place + 1) bytes (λ k. ap cells (omega arith) ∙ same (suc k)))

pub leaves-bytes : (writes : List Write) (bytes : List TaggedByte) → Leaves writes bytes → bytes_after writes ≡ bytes
leaves-bytes writes bytes h1 = grind (arith, nat_tests, filled-bytes)

-- one write behind others
cell-more : (writes : List Write) (w : Write) (place : ℕ) (before : Option TaggedByte) → cell_after (writes ++ w ∷ []) place before ≡ laid_at w place (cell_after writes place before)
cell-more [] w place before = refl
cell-more (x ∷ writes) w place before = cell-more writes w place (laid_at x place before)

reach-more : (writes : List Write) (w : Write) → reach (writes ++ w ∷ []) ≡ max (reach writes) (w.over.at + length w.over.bytes)
reach-more [] w = omega arith
reach-more (x ∷ writes) w = omega (arith, reach-more writes w)

-- places of lists
get-left : {A : Type 0} (xs ys : List A) (i : ℕ) → i < length xs → slice_get (xs ++ ys) i ≡ slice_get xs i
get-left [] ys i h = absurd (omega (arith, h))
get-left (x ∷ xs) ys zero h = refl
get-left (x ∷ xs) ys (suc i) h = get-left xs ys i (omega (arith, h))

get-right : {A : Type 0} (xs ys : List A) (i : ℕ) → slice_get (xs ++ ys) (length xs + i) ≡ slice_get ys i
get-right [] ys i = ap (slice_get ys) (omega arith)
get-right (x ∷ xs) ys i = ap (slice_get (x ∷ (xs ++ ys))) (let e : suc (length xs) + i ≡ suc (length xs + i) = omega arith in e) ∙ get-right xs ys i

get-take : {A : Type 0} (n : ℕ) (xs : List A) (i : ℕ) → i < n → slice_get (take n xs) i ≡ slice_get xs i
get-take zero xs i h = absurd (omega (arith, h))
get-take (suc n) [] i h = refl
get-take (suc n) (x ∷ xs) zero h = refl
get-take (suc n) (x ∷ xs) (suc i) h = get-take n xs i (omega (arith, h))

get-drop : {A : Type 0} (n : ℕ) (xs : List A) (i : ℕ) → slice_get (drop n xs) i ≡ slice_get xs (n + i)
get-drop zero xs i = ap (slice_get xs) (omega arith)
get-drop (suc n) [] i = refl
get-drop (suc n) (x ∷ xs) i = get-drop n xs i ∙ ap (slice_get (x ∷ xs)) (let e : suc (n + i) ≡ suc n + i = omega arith in e)

-- the bytes of an event are those of a write
held-at : (event at : ℕ) (bytes : List ℕ) (k : ℕ) → slice_get (held_from event at bytes) k ≡ option_map (λ b. record { value = b; origin = record { event = event; at = at + k } }) (slice_get bytes k)
held-at event at [] k = refl
held-at event at (b ∷ bytes) zero = ap (λ (i : ℕ). Some (record { value = b; origin = record { event = event; at = i } })) (let e : at ≡ at + 0 = omega arith in e)
held-at event at (b ∷ bytes) (suc k) = grind (arith, nat_tests, held-at event (at + 1) bytes k)

held-length : (event at : ℕ) (bytes : List ℕ) → length (held_from event at bytes) ≡ length bytes
held-length event at [] = refl
held-length event at (b ∷ bytes) = ap suc (held-length event (at + 1) bytes)

held-byte : (event : ℕ) (w : Written) (k : ℕ) → byte_of (record { event = event; over = w }) k ≡ slice_get (held_bytes event w.bytes) k
held-byte event w k = grind (arith, nat_tests, held-at)

-- what stands at a place of bytes that were laid over others
or-left : (xs ys : List TaggedByte) (k : ℕ) → slice_get (xs ++ ys) k ≡ or_before (slice_get xs k) (slice_get ys (k - length xs))
or-left [] ys k = ap (slice_get ys) (omega arith)
or-left (x ∷ xs) ys zero = refl
or-left (x ∷ xs) ys (suc k) = or-left xs ys k ∙ ap (λ (i : ℕ). or_before (slice_get xs k) (slice_get ys i)) (omega arith)

laid-length : (old new : List TaggedByte) (at : ℕ) → at ≤ length old → length (laid_over old at new) ≡ max (length old) (at + length new)
laid-length old new at h1 = grind (arith, nat_tests, length-take-le, length-drop, length-append)

laid-place : (event : ℕ) (w : Written) (old : List TaggedByte) (place : ℕ) → w.at ≤ length old → laid_at (record { event = event; over = w }) place (slice_get old place) ≡ slice_get (laid_over old w.at (held_bytes event w.bytes)) place
laid-place event w old place inside = by_test (nat_le w.at place) refl
  where
    new : List TaggedByte
    new = held_bytes event w.bytes

    front : length (take w.at old) ≡ w.at
    front = length-take-le w.at old inside

    apart : laid_over old w.at new ≡ take w.at old ++ (new ++ drop (w.at + length new) old)
    apart = append_assoc (take w.at old) new (drop (w.at + length new) old)

    behind : w.at ≤ place → slice_get (laid_over old w.at new) place ≡ slice_get (new ++ drop (w.at + length new) old) (place - w.at)
    behind h1 = grind (arith, nat_tests, front, apart, new, get-right)

    later : w.at ≤ place → (o : Option TaggedByte) → slice_get new (place - w.at) ≡ o → or_before o (slice_get old place) ≡ or_before o (slice_get (drop (w.at + length new) old) (place - w.at - length new))
    later h (Some b) is = refl
    later h None is =
        let past : length new ≤ place - w.at = none-past new (place - w.at) is in
        sym (get-drop (w.at + length new) old (place - w.at - length new) ∙ ap (slice_get old) (omega arith))
      where
        none-past : (xs : List TaggedByte) (k : ℕ) → slice_get xs k ≡ None → length xs ≤ k
        none-past [] k e = omega arith
        none-past (x ∷ xs) zero e = absurd (cc)
        none-past (x ∷ xs) (suc k) e = omega (arith, none-past xs k e)

    by_test : (b : Bool) → nat_le w.at place ≡ b
        → cond b (or_before (byte_of (record { event = event; over = w }) (place - w.at)) (slice_get old place)) (slice_get old place) ≡ slice_get (laid_over old w.at new) place
    by_test true e =
        let h : w.at ≤ place = grind (arith, nat_tests) in
        ap (λ (o : Option TaggedByte). or_before o (slice_get old place)) (held-byte event w (place - w.at))
        ∙ later h (slice_get new (place - w.at)) refl
        ∙ sym (behind h ∙ or-left new (drop (w.at + length new) old) (place - w.at))
    by_test false e =
        let h : place < w.at = grind (arith, nat_tests) in
        let size = front in
        sym (ap (λ (bytes : List TaggedByte). slice_get bytes place) apart ∙ get-left (take w.at old) (new ++ drop (w.at + length new) old) place (omega arith) ∙ get-take w.at old place h)

-- so a write leaves what it is laid over
pub laid-leaves : (writes : List Write) (old : List TaggedByte) (event : ℕ) (w : Written) → w.at ≤ length old → Leaves writes old → Leaves (writes ++ record { event = event; over = w } ∷ []) (laid_over old w.at (held_bytes event w.bytes))
laid-leaves writes old event w h1 h2 = grind (arith, nat_tests, cell-more, laid-place, reach-more, held-length, laid-length)

-- and the first one what a file is made with
pub first-leaves : (event file : ℕ) (bytes : List ℕ) → Leaves (record { event = event; over = record { file = file; at = 0; bytes = bytes } } ∷ []) (held_bytes event bytes)
first-leaves event file bytes =
    let w : Written = record { file = file; at = 0; bytes = bytes } in
    record {
      cells = λ place. first place;
      end = omega (arith, held-length event 0 bytes);
    }
  where
    or-none : (o : Option TaggedByte) → or_before o None ≡ o
    or-none o = grind (arith, nat_tests)

    first : (place : ℕ) → laid_at (record { event = event; over = record { file = file; at = 0; bytes = bytes } }) place None ≡ slice_get (held_bytes event bytes) place
    first place =
        let w : Written = record { file = file; at = 0; bytes = bytes } in
        let here : nat_le 0 place ≡ true = grind (arith, nat_tests) in
        ap (λ (b : Bool). cond b (or_before (byte_of (record { event = event; over = w }) (place - 0)) None) None) here
        ∙ or-none (byte_of (record { event = event; over = w }) (place - 0))
        ∙ held-byte event w (place - 0)
        ∙ ap (slice_get (held_bytes event bytes)) (omega arith)

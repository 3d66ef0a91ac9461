-- The number at the front of bytes is spelled there.
use Rattle.std.proofs.Common.{◌≡◌, ℕ, zero, suc, ◌<◌, ◌≤◌, ◌^◌, List, [], ◌∷◌, ◌++◌, length, get_or, take, drop, w16, w32, w64, refl, sym, ap, ◌∙◌, length-take, arith}
use Rattle.std.specs.Int.{from_le_bytes}
use Rattle.std.proofs.lemmas.List.{take-append-drop}
use Rattle.std.proofs.lemmas.Nat.{le_bytes_2, le_bytes_4, le_bytes_8}
use Rattle.std.proofs.lemmas.List.Elements.{All-head, All-tail}
use Rattle.byteorder.specs.Endian.{little_from}
use Rattle.schedule_log.specs.Fields.{field}
use Rattle.schedule_log.specs.Laws.{AreBytes, FieldSpelled}

-- the item at each place, and 0 behind the last
abbrev SmallItems : List ℕ → Type 0
SmallItems xs = (i : ℕ) → get_or xs i 0 < 256

small-items : (xs : List ℕ) → AreBytes xs → SmallItems xs
small-items [] h i = omega arith
small-items (x ∷ xs) h zero = All-head (λ b. b < 256) x xs h
small-items (x ∷ xs) h (suc i) = small-items xs (All-tail (λ b. b < 256) x xs h) i

small-take : (n : ℕ) (xs : List ℕ) → SmallItems xs → SmallItems (take n xs)
small-take zero xs h i = omega arith
small-take (suc n) [] h i = omega arith
small-take (suc n) (x ∷ xs) h zero = h zero
small-take (suc n) (x ∷ xs) h (suc i) = small-take n xs (λ k. h (suc k)) i

-- bytes are the field of the number that they spell
pub field-spelled-2 : FieldSpelled 2
field-spelled-2 bytes all long =
    let small = small-items bytes all in
    let fits : from_le_bytes w16 bytes < 256 ^ 2 = omega (arith, small 0, small 1) in
    (from_le_bytes w16 bytes, (fits, sym (le_bytes_2 bytes (from_le_bytes w16 bytes) long small refl)))

pub field-spelled-4 : FieldSpelled 4
field-spelled-4 bytes all long =
    let small = small-items bytes all in (
      from_le_bytes w32 bytes,
      (
        omega (arith, small 0, small 1, small 2, small 3),
        sym (le_bytes_4 bytes (from_le_bytes w32 bytes) long small refl),
      ),
    )

pub field-spelled-8 : FieldSpelled 8
field-spelled-8 bytes all long =
    let small = small-items bytes all in (
      from_le_bytes w64 bytes,
      (
        omega (arith, small 0, small 1, small 2, small 3, small 4, small 5, small 6, small 7),
        sym (le_bytes_8 bytes (from_le_bytes w64 bytes) long small refl),
      ),
    )

-- a field and what stands behind it, by the two parts of a split
joined : (width n : ℕ) (bytes front rest : List ℕ) → field width n ≡ front → front ≡ take width bytes → rest ≡ drop width bytes
    → bytes ≡ field width n ++ rest
joined width n bytes front rest spelled is_front is_rest =
    sym (rw (spelled, is_front, is_rest) (take-append-drop width bytes))

pub field2-front : (bytes front rest : List ℕ) (n : ℕ) → SmallItems bytes → 2 ≤ length bytes
    → front ≡ take 2 bytes → rest ≡ drop 2 bytes → n ≡ little_from 0 2 front → bytes ≡ field 2 n ++ rest
field2-front bytes front rest n small long is_front is_rest is_number =
    let e : n ≡ from_le_bytes w16 (take 2 bytes) = (let k : n ≡ little_from 0 2 (take 2 bytes) = is_number ∙ ap (little_from 0 2) is_front in omega (arith, k)) in
    let len : length (take 2 bytes) ≡ 2 = omega (arith, length-take 2 bytes) in
    joined 2 n bytes front rest (le_bytes_2 (take 2 bytes) n len (small-take 2 bytes small) e ∙ sym is_front) is_front is_rest

pub field4-front : (bytes front rest : List ℕ) (n : ℕ) → SmallItems bytes → 4 ≤ length bytes
    → front ≡ take 4 bytes → rest ≡ drop 4 bytes → n ≡ little_from 0 4 front → bytes ≡ field 4 n ++ rest
field4-front bytes front rest n small long is_front is_rest is_number =
    let e : n ≡ from_le_bytes w32 (take 4 bytes) = (let k : n ≡ little_from 0 4 (take 4 bytes) = is_number ∙ ap (little_from 0 4) is_front in omega (arith, k)) in
    let len : length (take 4 bytes) ≡ 4 = omega (arith, length-take 4 bytes) in
    joined 4 n bytes front rest (le_bytes_4 (take 4 bytes) n len (small-take 4 bytes small) e ∙ sym is_front) is_front is_rest

pub field8-front : (bytes front rest : List ℕ) (n : ℕ) → SmallItems bytes → 8 ≤ length bytes
    → front ≡ take 8 bytes → rest ≡ drop 8 bytes → n ≡ little_from 0 8 front → bytes ≡ field 8 n ++ rest
field8-front bytes front rest n small long is_front is_rest is_number =
    let e : n ≡ from_le_bytes w64 (take 8 bytes) = (let k : n ≡ little_from 0 8 (take 8 bytes) = is_number ∙ ap (little_from 0 8) is_front in omega (arith, k)) in
    let len : length (take 8 bytes) ≡ 8 = omega (arith, length-take 8 bytes) in
    joined 8 n bytes front rest (le_bytes_8 (take 8 bytes) n len (small-take 8 bytes small) e ∙ sym is_front) is_front is_rest

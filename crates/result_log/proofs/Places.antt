-- Records at a place of bytes.
use Rattle.std.proofs.Common.{◌≡◌, ℕ, ◌+◌, ◌-◌, ◌≤◌, List, ◌++◌, length, take, drop, slice_range, sym, ap, subst, ◌∙◌, length-append, length-drop, length-take, arith}
use Rattle.std.proofs.lemmas.List.{take-append-drop}
use Rattle.std.proofs.Math.Nat.{add-sub_cancel_left}
use Rattle.std.proofs.Math.Seq.{take-append_seam, take-length}
use Rattle.std.proofs.lemmas.List.Folds.{drop_split}
use Rattle.arn_base.specs.declared.records.Record.{Record}
use Rattle.arn_base.specs.declared.records.Record.TheVariants as entry
use Rattle.result_log.specs.Laws.{ReadsBytes, ReadsOneWay, ReadsToItsEnd, SpelledOneWay, SpelledWhereRead}
use Rattle.result_log.specs.Pieces.{Starts, StartsNone, StartsSome}
use Rattle.result_log.specs.Reading.{IsMalformed, IsSpelled, Reads}
use Rattle.result_log.specs.Spelling.{spelling}

-- what stands from the place on
read-behind : (bytes : List ℕ) (at : ℕ) (a : Record) (next : ℕ) → Reads bytes at a next
    → drop at bytes ≡ spelling a ++ drop next bytes
read-behind bytes at a next r =
    drop_split bytes at next r.forward ∙ ap (λ xs. xs ++ drop next bytes) r.is_spelling

some-bytes : (a : Record) → 1 ≤ length (spelling a)
some-bytes (entry.File name bytes) = omega arith
some-bytes (entry.Boot name g) = omega arith
some-bytes (entry.Typed bytes) = omega arith
some-bytes (entry.Unplug device) = omega arith
some-bytes (entry.Slice pid ran) = omega arith
some-bytes (entry.Signal pid signal cut handler) = omega arith
some-bytes (entry.Call pid number answer did) = omega arith
some-bytes (entry.End pid status) = omega arith

pub reads-bytes : ReadsBytes
reads-bytes bytes at a next r =
    let long : length (slice_range bytes at next) ≡ length (spelling a) = ap (λ (xs : List ℕ). length xs) r.is_spelling in
    omega (arith, long, some-bytes a, length-take (next - at) (drop at bytes))

pub reads-to-its-end : ReadsToItsEnd
reads-to-its-end bytes at a next r =
    let long : length (slice_range bytes at next) ≡ length (spelling a) = ap (λ (xs : List ℕ). length xs) r.is_spelling in
    omega (arith, long, r.forward, r.within, length-take (next - at) (drop at bytes), length-drop at bytes)

-- at most one record is read at a place
pub reads-one : SpelledOneWay → ReadsOneWay
reads-one record-one bytes at a b next_a next_b reads_a reads_b =
    let same = record-one a b (drop next_a bytes) (drop next_b bytes) reads_a.has_spelling reads_a.fits reads_b.has_spelling reads_b.fits
    (sym (read-behind bytes at a next_a reads_a) ∙ read-behind bytes at b next_b reads_b) in
    let left : length (drop next_a bytes) ≡ length (drop next_b bytes) = ap (λ (xs : List ℕ). length xs) same.1 in
    (same.0, omega (arith, left, reads_a.within, reads_b.within, length-drop next_a bytes, length-drop next_b bytes))

pub spelled-where-read : SpelledWhereRead
spelled-where-read bytes at a next r =
    sym (take-append-drop at bytes) ∙ ap (λ xs. take at bytes ++ xs) (read-behind bytes at a next r)

-- the bytes from a place up to the end
to-end : (bytes behind : List ℕ) (at : ℕ) → behind ≡ slice_range bytes at (length bytes) → behind ≡ drop at bytes
to-end bytes behind at is_behind =
    is_behind ∙ ap (λ n. take n (drop at bytes)) (sym (length-drop at bytes)) ∙ take-length (drop at bytes)

-- no record is read where none starts
pub none-read : (bytes behind : List ℕ) (at : ℕ) → behind ≡ slice_range bytes at (length bytes) → StartsNone behind → IsMalformed bytes at
none-read bytes behind at is_behind none (a, (next, r)) =
    none a (drop next bytes) (record {
      has_spelling = r.has_spelling;
      fits = r.fits;
      is_bytes = to-end bytes behind at is_behind ∙ read-behind bytes at a next r;
    })

-- a record is read where it starts
start-read : (bytes : List ℕ) (at : ℕ) (a : Record) (rest : List ℕ) → at ≤ length bytes → Starts (drop at bytes) a rest
    → Reads bytes at a (at + length (spelling a))
start-read bytes at a rest within s =
    let long = ap (λ (xs : List ℕ). length xs) s.is_bytes in
    let parts = length-append (spelling a) rest in
    record {
      has_spelling = s.has_spelling;
      fits = s.fits;
      forward = omega arith;
      within = omega (arith, long, parts, length-drop at bytes);
      is_spelling = rw (add-sub_cancel_left at (length (spelling a)), s.is_bytes) (take-append_seam (spelling a) rest);
    }

pub some-read : (bytes behind : List ℕ) (at : ℕ) → at ≤ length bytes → behind ≡ slice_range bytes at (length bytes) → StartsSome behind → IsSpelled bytes at
some-read bytes behind at within is_behind (a, (rest, s)) =
    (a, (at + length (spelling a), start-read bytes at a rest within (subst (λ xs. Starts xs a rest) (to-end bytes behind at is_behind) s)))

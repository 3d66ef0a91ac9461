-- What a payload spells, as far as it was read.
use Rattle.std.proofs.Common.{◌≡◌, ℕ, zero, suc, ◌+◌, ◌-◌, ◌<◌, ◌≤◌, List, [], ◌∷◌, ◌++◌, length, get_or, take, drop, w32, sym, ap, ◌∙◌, append_assoc, length-take, length-drop, take-append-drop, arith, All}
use Rattle.std.specs.Int.{from_le_bytes}
use Rattle.std.proofs.Math.Seq.{take-add}
use Rattle.std.proofs.lemmas.List.{flat_map_more}
use Rattle.std.proofs.lemmas.List.Elements.{All-push}
use Rattle.std.proofs.lemmas.Nat.{le_bytes_4}
use Rattle.arn_base.specs.declared.records.Record.{Record}
use Rattle.arn_base.specs.declared.records.Record.TheVariants as entry
use Rattle.result_log.specs.Laws.{ReadsAsSpelled}
use Rattle.result_log.specs.Reading.{Reads, IsMalformed}
use Rattle.result_log.specs.Spelling.{field, spelling}
use Rattle.log_store.specs.Log.{spellings, IsSpellable}
use Rattle.log_store.specs.declared.errors.OpenError.{OpenError}
use Rattle.log_store.specs.declared.errors.OpenError.TheVariants as opening
use Rattle.log_store.specs.Pieces.{IsMalformedWhere, IsPayloadBad}

-- each item is a byte
abbrev pub AreBytes : List ℕ → Type 0
AreBytes xs = (i : ℕ) → get_or xs i 0 < 256

AreBytes-take : (n : ℕ) (xs : List ℕ) → AreBytes xs → AreBytes (take n xs)
AreBytes-take zero xs h i = omega arith
AreBytes-take (suc n) [] h i = omega arith
AreBytes-take (suc n) (x ∷ xs) h zero = h zero
AreBytes-take (suc n) (x ∷ xs) h (suc i) = AreBytes-take n xs (λ k. h (suc k)) i

-- a field and what stands behind it, by the two parts of a split
joined : (n : ℕ) (bytes front rest : List ℕ) → field 4 n ≡ front → front ≡ take 4 bytes → rest ≡ drop 4 bytes → bytes ≡ field 4 n ++ rest
joined n bytes front rest spelled is_front is_rest =
    sym (ap (λ (xs : List ℕ). xs ++ rest) (spelled ∙ is_front) ∙ ap (λ (xs : List ℕ). take 4 bytes ++ xs) is_rest ∙ take-append-drop 4 bytes)

-- four bytes are the field of their number
pub field-front : (bytes front rest : List ℕ) (n : ℕ) → AreBytes bytes → 4 ≤ length bytes
    → front ≡ take 4 bytes → rest ≡ drop 4 bytes → n ≡ from_le_bytes w32 front → bytes ≡ field 4 n ++ rest
field-front bytes front rest n small long is_front is_rest is_number =
    let e : n ≡ from_le_bytes w32 (take 4 bytes) = is_number ∙ ap (from_le_bytes w32) is_front in
    let len : length (take 4 bytes) ≡ 4 = omega (arith, length-take 4 bytes) in
    joined n bytes front rest (le_bytes_4 (take 4 bytes) n len (AreBytes-take 4 bytes small) e ∙ sym is_front) is_front is_rest

-- the records that were read of a payload, up to a place
pub record IsRead (payload : List ℕ) (old new : List Record) (at : ℕ) : Type 0 where
  pub records : List Record
  pub are_spellable : All IsSpellable records
  pub front : take at payload ≡ spellings records
  pub are_added : new ≡ old ++ records
  pub is_within : at ≤ length payload

pub IsRead-more : (payload : List ℕ) (old now new : List Record) (at next : ℕ) (e : Record) → IsRead payload old now at → Reads payload at e next
    → new ≡ now ++ e ∷ [] → IsRead payload old new next
IsRead-more payload old now new at next e read reads added = grind (arith, All-push IsSpellable read.records e read.are_spellable (reads.has_spelling, reads.fits), take-add at (next - at) payload, flat_map_more spelling [] read.records e, append_assoc old read.records (e ∷ []))

pub IsRead-bad : (payload : List ℕ) (old new : List Record) (at place bad : ℕ) → ReadsAsSpelled → IsRead payload old new at → at < length payload
    → IsMalformed payload at → bad ≡ place + at → IsPayloadBad payload place bad
IsRead-bad payload old new at place bad stands read within malformed is_bad = grind (arith, length-take at payload, take-append-drop at payload, length-drop at payload)

-- a spelling isn't empty
pub spelling-long : (e : Record) → 0 < length (spelling e)
spelling-long (entry.File name bytes) = omega arith
spelling-long _ = omega arith

-- an error that tells a place tells another fact of it
pub IsMalformedWhere-weaker : (P Q : ℕ → Type 0) (error : OpenError) → IsMalformedWhere P error → ((at : ℕ) → P at → Q at) → IsMalformedWhere Q error
IsMalformedWhere-weaker P Q (opening.Malformed at) m q = q at m
IsMalformedWhere-weaker P Q _ m q = m

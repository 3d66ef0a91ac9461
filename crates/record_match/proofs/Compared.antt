-- Records that differ, and the first byte of their spellings that does.
use Rattle.std.proofs.Common.{◌≡◌, ◌≢◌, ℕ, zero, suc, ◌+◌, ◌<◌, ◌≤◌, List, [], ◌∷◌, ◌++◌, length, get_or, take, Option, None, Some, slice_get, refl, sym, ap, ◌∙◌, arith, append_assoc, length-append, IfSome}
use Rattle.std.proofs.Math.Seq.{take-append-add}
use Rattle.std.proofs.lemmas.List.{take-append-le, take_more, length-take-le}
use Rattle.std.proofs.lemmas.Option.{get_or_from_slice_get, slice_get-get_or, slice_get_within}
use Rattle.arn_base.specs.declared.records.Record.{Record}
use Rattle.result_log.specs.Laws.{SpelledOneWay, ReadsAsSpelled, ReadsBytes}
use Rattle.result_log.specs.Spelling.{spelling, FitsFields, HasSpelling}
use Rattle.arn_base.specs.declared.records.Differs.{Differs}
use Rattle.record_match.specs.Differs.{spelling_if, IsFirstDifference}
use Rattle.record_match.specs.Matching.{IsDifferenceAt, IsMatched, IsMismatch}

-- a spelling has a byte
spelling-some : ReadsAsSpelled → ReadsBytes → (entry : Record) → HasSpelling entry → FitsFields entry → 0 < length (spelling entry)
spelling-some stands goes_on entry has fits =
    let reads = stands [] [] entry has fits in
    let lt : 0 < 0 + length (spelling entry) = goes_on ([] ++ (spelling entry ++ [])) 0 entry (0 + length (spelling entry)) reads in
    omega (arith, lt)

none_differs : ReadsAsSpelled → ReadsBytes → (entry : Record) → HasSpelling entry → FitsFields entry → [] ≢ spelling entry
none_differs stands goes_on entry has fits same =
    let long : 0 ≡ length (spelling entry) = ap length same in
    omega (arith, long, spelling-some stands goes_on entry has fits)

-- records that differ have spellings that do
pub spellings_differ : SpelledOneWay → ReadsAsSpelled → ReadsBytes → (said found : Option Record) → IfSome said HasSpelling → IfSome said FitsFields → IfSome found HasSpelling → IfSome found FitsFields → said ≢ found → spelling_if said ≢ spelling_if found
spellings_differ one stands goes_on None None has_a fits_a has_b fits_b differ same = differ refl
spellings_differ one stands goes_on None (Some b) has_a fits_a has_b fits_b differ same = none_differs stands goes_on b has_b fits_b same
spellings_differ one stands goes_on (Some a) None has_a fits_a has_b fits_b differ same = none_differs stands goes_on a has_a fits_a (sym same)
spellings_differ one stands goes_on (Some a) (Some b) has_a fits_a has_b fits_b differ same =
    differ (ap (λ (e : Record). Some e) (one a b [] [] has_a fits_a has_b fits_b (ap (λ (xs : List ℕ). xs ++ []) same)).0)

-- what stands in the front of a list
pub slice_get-front : {X : Type 0} (front back : List X) (k : ℕ) → k < length front → slice_get (front ++ back) k ≡ slice_get front k
slice_get-front [] back k within = absurd (omega (arith, within))
slice_get-front (x ∷ front) back zero within = refl
slice_get-front (x ∷ front) back (suc k) within = slice_get-front front back k (omega (arith, within))

-- and what stands behind that
pub slice_get-back : {X : Type 0} (front back : List X) (k : ℕ) → slice_get (front ++ back) (length front + k) ≡ slice_get back k
slice_get-back [] back k = ap (slice_get back) (omega arith)
slice_get-back (x ∷ front) back k =
    let at : length (x ∷ front) + k ≡ suc (length front + k) = omega arith in
    rw at (slice_get-back front back k)

pub slice_get-some : {X : Type 0} (xs : List X) (k : ℕ) → k < length xs → slice_get xs k ≢ None
slice_get-some [] k within none = omega (arith, within)
slice_get-some (x ∷ xs) zero within none = cc
slice_get-some (x ∷ xs) (suc k) within none = slice_get-some xs k (omega (arith, within)) none

-- two records at a place that differ are the first difference, where all before them are the same
pub first_there : (said found : List Record) (place : ℕ) (other : Option Record) (d : Differs) → take place said ≡ take place found → slice_get found place ≡ other → slice_get said place ≢ other → IsDifferenceAt place (slice_get said place) other d → IsFirstDifference said found d
first_there said found place other d same there differ at =
    let place_is : d.place ≡ place = at.is_place in
    let said_is : slice_get said d.place ≡ slice_get said place = ap (slice_get said) place_is in
    let found_is : slice_get found d.place ≡ other = ap (slice_get found) place_is ∙ there in
    record {
      same_before = ap (λ (n : ℕ). take n said) place_is ∙ same ∙ ap (λ (n : ℕ). take n found) (sym place_is);
      differ = λ e. differ (sym said_is ∙ e ∙ found_is);
      same_bytes = ap (λ (o : Option Record). take d.at (spelling_if o)) said_is ∙ at.same_bytes ∙ ap (λ (o : Option Record). take d.at (spelling_if o)) (sym found_is);
      said_byte = ap (λ (o : Option Record). slice_get (spelling_if o) d.at) said_is ∙ at.said_byte;
      found_byte = ap (λ (o : Option Record). slice_get (spelling_if o) d.at) found_is ∙ at.found_byte;
      bytes_differ = at.bytes_differ;
    }

-- a first difference is one whatever follows
pub first-front : (said front back : List Record) (d : Differs) → d.place < length front → IsFirstDifference said front d → IsFirstDifference said (front ++ back) d
first-front said front back d within first =
    let there : slice_get (front ++ back) d.place ≡ slice_get front d.place = slice_get-front front back d.place within in
    let before : take d.place (front ++ back) ≡ take d.place front = take-append-le d.place front back (omega (arith, within)) in
    record {
      same_before = first.same_before ∙ sym before;
      differ = λ e. first.differ (e ∙ there);
      same_bytes = first.same_bytes ∙ ap (λ (o : Option Record). take d.at (spelling_if o)) (sym there);
      said_byte = first.said_byte;
      found_byte = ap (λ (o : Option Record). slice_get (spelling_if o) d.at) there ∙ first.found_byte;
      bytes_differ = first.bytes_differ;
    }

-- the first byte that two spellings don't share
pub difference_of : (place at : ℕ) (said found : Option Record) (said_bytes found_bytes : List ℕ) (said_byte found_byte : Option ℕ) → spelling_if said ≢ spelling_if found → said_bytes ≡ spelling_if said → found_bytes ≡ spelling_if found
    → take at said_bytes ≡ take at found_bytes → (said_bytes ≢ found_bytes → slice_get said_bytes at ≢ slice_get found_bytes at)
    → slice_get said_bytes at ≡ said_byte → slice_get found_bytes at ≡ found_byte → IsDifferenceAt place said found (record { place = place; at = at; said = said_byte; found = found_byte })
difference_of place at said found said_bytes found_bytes said_byte found_byte differ said_is found_is same others is_said is_found = record {
  is_place = refl;
  same_bytes = ap (take at) (sym said_is) ∙ same ∙ ap (take at) found_is;
  said_byte = ap (λ (xs : List ℕ). slice_get xs at) (sym said_is) ∙ is_said;
  found_byte = ap (λ (xs : List ℕ). slice_get xs at) (sym found_is) ∙ is_found;
  bytes_differ = λ e. others (λ bytes. differ (sym said_is ∙ bytes ∙ found_is)) (is_said ∙ e ∙ sym is_found);
}

-- one record more is matched
pub IsMatched-more : (entries found : List Record) (matched i next : ℕ) (entry : Record) → IsMatched entries matched (take i found) next → i < length found → entry ≡ get_or found i entry → slice_get entries next ≡ Some entry
    → IsMatched entries matched (take (i + 1) found) (next + 1)
IsMatched-more entries found matched i next entry so_far lt is there =
    let within : next < length entries = slice_get_within entries next entry there in
    let one_more : take (i + 1) found ≡ take i found ++ entry ∷ [] = take_more found i entry lt ∙ ap (λ (e : Record). take i found ++ e ∷ []) (sym is) in
    record {
      within = omega (arith, within);
      same =
          take_more entries next entry within
          ∙ ap (λ (e : Record). take next entries ++ e ∷ []) (get_or_from_slice_get entries next entry entry there)
          ∙ ap (λ (xs : List Record). xs ++ entry ∷ []) so_far.same
          ∙ append_assoc (take matched entries) (take i found) (entry ∷ [])
          ∙ ap (λ (xs : List Record). take matched entries ++ xs) (sym one_more);
    }

-- the next one isn't
pub IsMismatch-here : (entries found : List Record) (matched i next : ℕ) (entry : Record) (d : Differs) → matched ≤ length entries → IsMatched entries matched (take i found) next → i < length found → entry ≡ get_or found i entry → slice_get entries next ≢ Some entry
    → IsDifferenceAt next (slice_get entries next) (Some entry) d → IsMismatch entries (take matched entries ++ found) d
IsMismatch-here entries found matched i next entry d enough so_far lt is other at =
    let before : List Record = take matched entries in
    let long : length before ≡ matched = length-take-le matched entries enough in
    let place : next ≡ length before + i =
    omega (arith, length-take-le next entries so_far.within, ap length so_far.same, length-append before (take i found), length-take-le i found (omega (arith, lt))) in
    let same : take next entries ≡ take next (before ++ found) =
    so_far.same ∙ sym (ap (λ (n : ℕ). take n (before ++ found)) place ∙ take-append-add before found i) in
    let there : slice_get (before ++ found) next ≡ Some entry =
    ap (slice_get (before ++ found)) place ∙ slice_get-back before found i ∙ slice_get-get_or found i entry lt ∙ ap (λ (e : Record). Some e) (sym is) in
    let within : d.place < length (before ++ found) = omega (arith, at.is_place, place, length-append before found, lt) in
    λ others. first-front entries (before ++ found) others d within (first_there entries (before ++ found) next (Some entry) d same there other at)

-- The first difference of two lists of records.
use Rattle.std.proofs.Common.{◌≡◌, ◌≢◌, ℕ, zero, suc, ◌+◌, ◌==◌, Bool, true, false, List, [], ◌∷◌, Option, Some, None, ap, arith, drop, get_or, refl, slice_get, sym, take, ◌∙◌, if◌then◌else◌, ◌↔◌, Err, IsErrOf, Ok, OnOk, Result}
use Rattle.std.proofs.lemmas.Bool.Decides.{nat_tests}
use Rattle.std.proofs.lemmas.Option.{none-some}
use Rattle.std.specs.Result.{result_err}
use Rattle.log_model.specs.Records.{IsRun, named, records}
use Rattle.arn_base.specs.declared.records.Differs.{Differs}
use Rattle.arn_base.specs.declared.records.Record.{Record}
use Rattle.record_match.specs.declared.differs.RebuildError.{RebuildError}
use Rattle.record_match.specs.declared.differs.RebuildError.TheVariants as rebuild
use Rattle.record_match.specs.Differs.{same_record, spelling_if, IsFirstDifference}
use Rattle.record_match.specs.Laws.{RecordsCompare}
use Rattle.report_texts.specs.Totals.{verify_line}
use Rattle.result_log.specs.Spelling.{spelling}
use Rattle.session_questions.specs.Verify.{bytes_from, difference, records_from, verify_text}

same-test : (n : ℕ) → (n == n) ≡ true
same-test n = grind (arith, nat_tests)

other-test : (n m : ℕ) → n ≢ m → (n == m) ≡ false
other-test n m differ = grind (arith, nat_tests)

not-true : (b : Bool) → b ≢ true → b ≡ false
not-true true other = absurd (other refl)
not-true false other = refl

-- what is told, by what it tells
told : (d : Differs) (place at : ℕ) (said found : Option ℕ) → d.place ≡ place → d.at ≡ at → said ≡ d.said → found ≡ d.found → record { place = place; at = at; said = said; found = found } ≡ d
told d place at said found place_is at_is said_is found_is =
    ap (λ (p : ℕ). record { place = p; at = at; said = said; found = found }) (sym place_is)
    ∙ ap (λ (a : ℕ). record { place = d.place; at = a; said = said; found = found }) (sym at_is)
    ∙ ap (λ (s : Option ℕ). record { place = d.place; at = d.at; said = s; found = found }) said_is
    ∙ ap (λ (f : Option ℕ). record { place = d.place; at = d.at; said = d.said; found = f }) found_is

-- bytes that are the same up to one that differs
bytes-first : (place at k : ℕ) (said found : List ℕ) (d : Differs) → take k said ≡ take k found → slice_get said k ≡ d.said → slice_get found k ≡ d.found → d.said ≢ d.found → d.place ≡ place → d.at ≡ at + k → bytes_from place at said found ≡ d
bytes-first place at k [] [] d same said_is found_is differ place_is at_is = absurd (differ (sym said_is ∙ found_is))
bytes-first place at zero (s ∷ said) [] d same said_is found_is differ place_is at_is = told d place at (Some s) None place_is (omega (arith, at_is)) said_is found_is
bytes-first place at zero [] (f ∷ found) d same said_is found_is differ place_is at_is = told d place at None (Some f) place_is (omega (arith, at_is)) said_is found_is
bytes-first place at zero (s ∷ said) (f ∷ found) d same said_is found_is differ place_is at_is =
    let others : s ≢ f = λ (e : s ≡ f). differ (sym said_is ∙ ap Some e ∙ found_is) in
    rw (other-test s f others) (told d place at (Some s) (Some f) place_is (omega (arith, at_is)) said_is found_is)
bytes-first place at (suc k) (s ∷ said) (f ∷ found) d same said_is found_is differ place_is at_is =
    let first : s ≡ f = ap (λ (xs : List ℕ). get_or xs 0 0) same in
    let rest : take k said ≡ take k found = ap (drop 1) same in
    rw (ap (λ (n : ℕ). n == f) first ∙ same-test f) (bytes-first place (at + 1) k said found d rest said_is found_is differ place_is (omega (arith, at_is)))
bytes-first place at (suc k) _ _ d same said_is found_is differ place_is at_is = cc same

-- what `verify` says of records that differ isn't that they are a run's
no-run-line : (d : Differs) → verify_line (Some d) ≢ verify_line None
no-run-line d same = omega (arith, ap (λ (xs : List ℕ). get_or xs 7 0) same)

run-line-none : (o : Option Differs) → verify_line o ≡ verify_line None → o ≡ None
run-line-none None same = refl
run-line-none (Some d) same = absurd (no-run-line d same)

module _ (compare : RecordsCompare) where
  -- records don't differ from themselves
  pub records-same : (place : ℕ) (entries : List Record) → records_from place entries entries ≡ None
  records-same place [] = refl
  records-same place (e ∷ entries) = rw ((compare e e).1 refl) (records-same (place + 1) entries)

  -- records that differ nowhere are the same
  chosen-none : (b : Bool) (o : Option Differs) (d : Differs) → (if b then o else Some d) ≡ None → b ≡ true
  chosen-none true o d none = refl
  chosen-none false o d none = absurd (none-some d (sym none))

  chosen-rest : (b : Bool) (o : Option Differs) (d : Differs) → (if b then o else Some d) ≡ None → o ≡ None
  chosen-rest true o d none = none
  chosen-rest false o d none = absurd (none-some d (sym none))

  none-same : (place : ℕ) (said found : List Record) → records_from place said found ≡ None → said ≡ found
  none-same place [] [] none = refl
  none-same place (s ∷ said) (f ∷ found) none =
      let first : s ≡ f = (compare s f).0 (chosen-none (same_record s f) _ _ none) in
      let rest : said ≡ found = none-same (place + 1) said found (chosen-rest (same_record s f) _ _ none) in
      ap (λ (x : Record). x ∷ said) first ∙ ap (λ (xs : List Record). f ∷ xs) rest
  none-same place [] (f ∷ found) none = absurd (none-some _ (sym none))
  none-same place (s ∷ said) [] none = absurd (none-some _ (sym none))

  -- records that are the same up to one that differs, whose spelling does
  records-first : (place k : ℕ) (said found : List Record) (d : Differs) → take k said ≡ take k found → slice_get said k ≢ slice_get found k
      → take d.at (spelling_if (slice_get said k)) ≡ take d.at (spelling_if (slice_get found k)) → slice_get (spelling_if (slice_get said k)) d.at ≡ d.said
      → slice_get (spelling_if (slice_get found k)) d.at ≡ d.found → d.said ≢ d.found → d.place ≡ place + k → records_from place said found ≡ Some d
  records-first place k [] [] d same others bytes said_is found_is differ place_is = absurd (others refl)
  records-first place zero (s ∷ said) [] d same others bytes said_is found_is differ place_is = ap Some (bytes-first place 0 d.at (spelling s) [] d bytes said_is found_is differ (omega (arith, place_is)) (omega arith))
  records-first place zero [] (f ∷ found) d same others bytes said_is found_is differ place_is = ap Some (bytes-first place 0 d.at [] (spelling f) d bytes said_is found_is differ (omega (arith, place_is)) (omega arith))
  records-first place zero (s ∷ said) (f ∷ found) d same others bytes said_is found_is differ place_is =
      let other : same_record s f ≡ false = not-true (same_record s f) (λ (yes : same_record s f ≡ true). others (ap Some ((compare s f).0 yes))) in
      rw other (ap Some (bytes-first place 0 d.at (spelling s) (spelling f) d bytes said_is found_is differ (omega (arith, place_is)) (omega arith)))
  records-first place (suc k) (s ∷ said) (f ∷ found) d same others bytes said_is found_is differ place_is =
      let first : s ≡ f = ap (λ (xs : List Record). get_or xs 0 s) same in
      let rest : take k said ≡ take k found = ap (drop 1) same in
      rw ((compare s f).1 first) (records-first (place + 1) k said found d rest others bytes said_is found_is differ (omega (arith, place_is)))
  records-first place (suc k) _ _ d same others bytes said_is found_is differ place_is = cc same

  -- the first difference is what is told
  pub first-told : (entries : List Record) (d : Differs) → IsFirstDifference entries (records (named entries)) d → difference entries ≡ Some d
  first-told entries d h =
      records-first 0 d.place entries (records (named entries)) d h.same_before h.differ h.same_bytes h.said_byte h.found_byte h.bytes_differ (omega arith)

  -- a run's records are those of their own inputs
  pub none-of_run : (entries : List Record) → IsRun entries → difference entries ≡ None
  none-of_run entries run = ap (records_from 0 entries) (sym run) ∙ records-same 0 entries

  -- and no others are said to be
  pub run-of_none : (entries : List Record) → difference entries ≡ None → IsRun entries
  run-of_none entries none = none-same 0 entries (records (named entries)) none

  -- what making the machine again tells
  pub made-none : {T : Type 0} (entries : List Record) (made : Result T RebuildError) → None ≡ result_err made → OnOk made (IsRun entries) → None ≡ difference entries
  made-none entries (Ok m) none run = sym (none-of_run entries run)
  made-none entries (Err e) none run = absurd (none-some e none)

  pub made-differs : {T : Type 0} (entries : List Record) (made : Result T RebuildError) (d : Differs) → Some (rebuild.Differs d) ≡ result_err made → ((at : Differs) → IsErrOf made (rebuild.Differs at) → IsFirstDifference entries (records (named entries)) at) → Some d ≡ difference entries
  made-differs entries (Ok m) d some first = absurd (none-some (rebuild.Differs d) (sym some))
  made-differs entries (Err e) d some first = sym (first-told entries d (first d (cc)))

  pub verified : (entries : List Record) → (verify_text entries ≡ verify_line None) ↔ IsRun entries
  verified entries = ((λ same. run-of_none entries (run-line-none (difference entries) same)), (λ run. ap verify_line (none-of_run entries run)))

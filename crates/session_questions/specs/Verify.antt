-- What is printed of whether records are a run's.
use Rattle.std.specs.Prelude.{◌≡◌, ◌↔◌, ℕ, ◌+◌, ◌==◌, if◌then◌else◌, List, [], ◌∷◌, Option, Some, None}
use Rattle.arn_base.specs.declared.records.Differs.{Differs}
use Rattle.arn_base.specs.declared.records.Record.{Record}
use Rattle.log_model.specs.Records.{IsRun, named, records}
use Rattle.record_match.specs.Differs.{same_record}
use Rattle.report_texts.specs.Totals.{verify_line}
use Rattle.result_log.specs.Spelling.{spelling}

-- where the spellings of two records first differ, whose bytes are numbered from here on; where both end, none is told
abbrev pub bytes_from : ℕ → ℕ → List ℕ → List ℕ → Differs
bytes_from place at [] [] = record { place = place; at = at; said = None; found = None }
bytes_from place at (s ∷ said) [] = record { place = place; at = at; said = Some s; found = None }
bytes_from place at [] (f ∷ found) = record { place = place; at = at; said = None; found = Some f }
bytes_from place at (s ∷ said) (f ∷ found) =
    if s == f then bytes_from place (at + 1) said found else record { place = place; at = at; said = Some s; found = Some f }

-- where two lists of records first differ, which are numbered from here on
abbrev pub records_from : ℕ → List Record → List Record → Option Differs
records_from place [] [] = None
records_from place (s ∷ said) [] = Some (bytes_from place 0 (spelling s) [])
records_from place [] (f ∷ found) = Some (bytes_from place 0 [] (spelling f))
records_from place (s ∷ said) (f ∷ found) =
    if same_record s f then records_from (place + 1) said found else Some (bytes_from place 0 (spelling s) (spelling f))

-- where records first differ from those of the inputs that they name
abbrev pub difference : List Record → Option Differs
difference entries = records_from 0 entries (records (named entries))

-- that they are these, or where they differ
abbrev pub verify_text : List Record → List ℕ
verify_text entries = verify_line (difference entries)

-- `verify run` is printed exactly where the records are those of a run
abbrev pub VerifiesRuns : Type 0
VerifiesRuns = (entries : List Record) → (verify_text entries ≡ verify_line None) ↔ IsRun entries

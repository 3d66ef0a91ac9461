-- What is read at a place of bytes.
use Rattle.std.specs.Prelude.{◌≡◌, ℕ, ◌≤◌, List, length, slice_range}
use Rattle.arn_base.specs.declared.records.Record.{Record}
use Rattle.schedule_log.specs.declared.errors.GetError.{GetError}
use Rattle.schedule_log.specs.declared.errors.GetError.TheVariants as error
use Rattle.result_log.specs.Spelling.{spelling, FitsFields, HasSpelling}

-- the bytes from `at` to `next` are the spelling of the record
pub record Reads (bytes : List ℕ) (at : ℕ) (entry : Record) (next : ℕ) : Type 0 where
  pub has_spelling : HasSpelling entry
  pub fits : FitsFields entry
  pub forward : at ≤ next
  pub within : next ≤ length bytes
  pub is_spelling : slice_range bytes at next ≡ spelling entry

-- a record's spelling stands at the place
abbrev pub IsSpelled : List ℕ → ℕ → Type 0
IsSpelled bytes at = (entry : Record) × ((next : ℕ) × Reads bytes at entry next)

-- no record's spelling stands at the place
abbrev pub IsMalformed : List ℕ → ℕ → Type 0
IsMalformed bytes at = ¬ IsSpelled bytes at

-- why no record was read at the place: none is spelled there; or memory ran out for one that is
abbrev pub IsCause : List ℕ → ℕ → GetError → Type 0
IsCause bytes at (error.Malformed place) = (place ≡ at) × IsMalformed bytes at
IsCause bytes at error.NoMemory = IsSpelled bytes at

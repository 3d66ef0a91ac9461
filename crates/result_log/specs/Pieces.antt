-- The parts of a spelling, as they are appended and as they are split off.
use Rattle.std.specs.Prelude.{◌≡◌, ℕ, ◌<◌, ◌^◌, List, ◌++◌}
use Rattle.arn_base.specs.declared.records.Extra.{Extra}
use Rattle.arn_base.specs.declared.records.Record.{Record}
use Rattle.schedule_log.specs.Fields.{counted, field, named, IsCounted, IsName}
use Rattle.result_log.specs.Spelling.{extra_fields, spelling, ExtraHasSpelling, FitsExtra, FitsFields, HasSpelling}

-- what stands before the tag of a call: the kind, the process, the call's number and its result
abbrev pub call_head : ℕ → ℕ → ℕ → List ℕ
call_head pid number answer = field 1 7 ++ field 4 pid ++ field 8 number ++ field 8 answer

-- the bytes begin with the number of a device and a list of bytes
pub record BeginsDevice (bytes : List ℕ) (device : ℕ) (found rest : List ℕ) : Type 0 where
  pub fits : device < 2 ^ 32
  pub is_counted : IsCounted found
  pub is_bytes : bytes ≡ (field 4 device ++ counted found) ++ rest

-- the bytes begin with the number of a file, a place in it and a list of bytes
pub record BeginsPut (bytes : List ℕ) (file at : ℕ) (found rest : List ℕ) : Type 0 where
  pub fits : (file < 2 ^ 32) × (at < 2 ^ 32)
  pub is_counted : IsCounted found
  pub is_bytes : bytes ≡ (field 4 file ++ field 4 at ++ counted found) ++ rest

-- the bytes begin with the number of a file and a name
pub record BeginsPath (bytes : List ℕ) (file : ℕ) (path rest : List ℕ) : Type 0 where
  pub fits : file < 2 ^ 32
  pub is_name : IsName path
  pub is_bytes : bytes ≡ (field 4 file ++ named path) ++ rest

-- the bytes start with the spelling of the record
pub record Starts (bytes : List ℕ) (entry : Record) (rest : List ℕ) : Type 0 where
  pub has_spelling : HasSpelling entry
  pub fits : FitsFields entry
  pub is_bytes : bytes ≡ spelling entry ++ rest

-- the bytes start with a record's spelling
abbrev pub StartsSome : List ℕ → Type 0
StartsSome bytes = (entry : Record) × ((rest : List ℕ) × Starts bytes entry rest)

-- the bytes start with no record's spelling
abbrev pub StartsNone : List ℕ → Type 0
StartsNone bytes = (entry : Record) (rest : List ℕ) → ¬ Starts bytes entry rest

-- the bytes start with what a call did
pub record StartsExtra (bytes : List ℕ) (did : Extra) (rest : List ℕ) : Type 0 where
  pub has_spelling : ExtraHasSpelling did
  pub fits : FitsExtra did
  pub is_bytes : bytes ≡ extra_fields did ++ rest

-- the bytes start with what some call did
abbrev pub StartsSomeExtra : List ℕ → Type 0
StartsSomeExtra bytes = (did : Extra) × ((rest : List ℕ) × StartsExtra bytes did rest)

-- the bytes start with what no call did
abbrev pub StartsNoExtra : List ℕ → Type 0
StartsNoExtra bytes = (did : Extra) (rest : List ℕ) → ¬ StartsExtra bytes did rest

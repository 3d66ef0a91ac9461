-- The bytes of a log while a frame is added, and while they are read.
use Rattle.std.specs.Prelude.{◌≡◌, ◌≢◌, ◌⊎◌, ℕ, ◌+◌, ◌-◌, ◌≤◌, true, List, [], ◌∷◌, ◌++◌, length, take, drop, All}
use Rattle.arn_base.specs.declared.records.Record.{Record}
use Rattle.result_log.specs.Spelling.{counted}
use Rattle.log_store.specs.Stores.{IsLeftBy}
use Rattle.log_store.specs.Log.{log_name, spellings, frames, records_of, IsCommit, IsEnd, IsSpellable}
use Rattle.log_store.specs.Refused.{BeginsNone, IsBroken, IsMisnamed}
use Rattle.log_store.specs.declared.errors.OpenError.{OpenError}
use Rattle.log_store.specs.declared.errors.OpenError.TheVariants as opening

-- bytes that end with a closed gate, with the gate open and these bytes behind it
abbrev pub with_frame : List ℕ → List ℕ → List ℕ
with_frame old bytes = take (length old - 1) old ++ 1 ∷ bytes

-- the closed gate stands, with any bytes behind it
pub record IsUnopened (front left : List ℕ) : Type 0 where
  pub rest : List ℕ
  pub are_bytes : left ≡ front ++ 0 ∷ rest

-- the whole frame stands behind a gate of some value
pub record IsWritten (front bytes left : List ℕ) : Type 0 where
  pub gate : ℕ
  pub are_bytes : left ≡ front ++ gate ∷ bytes

-- what a stop leaves while these bytes are added behind a closed gate
pub record IsTorn (old bytes left : List ℕ) : Type 0 where
  pub stands : (front : List ℕ) → old ≡ front ++ 0 ∷ [] →
      IsUnopened front left ⊎ IsWritten front bytes left
  pub no_longer : length left ≤ length old + length bytes

-- what a frame behind an open gate holds, and what stands behind it
pub record IsFrameRead (behind : List ℕ) (old new : List Record) (next : List ℕ) : Type 0 where
  pub commit : List Record
  pub is_commit : IsCommit commit
  pub are_bytes : behind ≡ counted (spellings commit) ++ next
  pub is_next : next ≢ []
  pub are_added : new ≡ old ++ commit

-- what a payload spells
pub record IsPayloadRead (payload : List ℕ) (old new : List Record) : Type 0 where
  pub records : List Record
  pub are_spellable : All IsSpellable records
  pub are_bytes : payload ≡ spellings records
  pub are_added : new ≡ old ++ records

-- a payload spells some records, and then, at this place of the log, none
pub record IsPayloadBad (payload : List ℕ) (place at : ℕ) : Type 0 where
  pub records : List Record
  pub rest : List ℕ
  pub are_spellable : All IsSpellable records
  pub are_bytes : payload ≡ spellings records ++ rest
  pub has_more : rest ≢ []
  pub begins_none : BeginsNone rest
  pub is_place : at ≡ place + length (spellings records)

-- a log is malformed at such a place, or memory ran out
abbrev pub IsMalformedWhere : (ℕ → Type 0) → OpenError → Type 0
IsMalformedWhere P (opening.TooLong len) = ⊥
IsMalformedWhere P (opening.NotLog at) = ⊥
IsMalformedWhere P (opening.Malformed at) = P at
IsMalformedWhere P opening.Disk = ⊥
IsMalformedWhere P opening.NoMemory = Unit {0}

-- where bytes of a log couldn't be read, or memory ran out
abbrev pub IsReadErrorOf : List ℕ → OpenError → Type 0
IsReadErrorOf bytes (opening.TooLong len) = ⊥
IsReadErrorOf bytes (opening.NotLog at) = IsMisnamed bytes at
IsReadErrorOf bytes (opening.Malformed at) = IsBroken bytes at
IsReadErrorOf bytes opening.Disk = ⊥
IsReadErrorOf bytes opening.NoMemory = Unit {0}

-- the bytes of a log as they were read: the frames of commits, and an end
pub record IsFound (bytes : List ℕ) (entries : List Record) (end : List ℕ) : Type 0 where
  pub commits : List (List Record)
  pub are_commits : All IsCommit commits
  pub are_bytes : bytes ≡ log_name ++ (frames commits ++ end)
  pub are_records : entries ≡ records_of commits
  pub is_end : IsEnd end

-- from the gate on these bytes stand
pub record EndsWith (gate : ℕ) (end bytes : List ℕ) : Type 0 where
  pub is_within : gate ≤ length bytes
  pub are_bytes : drop gate bytes ≡ end

-- the same front, and then an end, and no more bytes
pub record IsSameFront (gate : ℕ) (old new : List ℕ) : Type 0 where
  pub front : take gate new ≡ take gate old
  pub is_end : IsEnd (drop gate new)
  pub no_longer : length new ≤ length old

-- what a store leaves that holds these records in a log of this length
abbrev pub IsLeft : List Record → ℕ → List ℕ → Type 0
IsLeft entries log_len bytes =
    IsLeftBy (record { entries = entries; log_len = log_len; usable = true }) bytes

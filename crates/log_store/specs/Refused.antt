-- Bytes that are no log, and the place where that shows.
use Rattle.std.specs.Prelude.{◌≡◌, ◌≢◌, ◌⊎◌, ℕ, ◌+◌, ◌<◌, List, [], ◌∷◌, ◌++◌, length, take, slice_get, All}
use Rattle.arn_base.specs.declared.records.Record.{Record}
use Rattle.result_log.specs.Spelling.{spelling, counted, IsCounted}
use Rattle.log_store.specs.Log.{log_name, spellings, frames, IsCommit, IsLog, IsSpellable}

-- there are no records of which the bytes are a log, not even none
abbrev pub IsNoLog : List ℕ → Type 0
IsNoLog bytes = (records : List Record) → ¬ IsLog bytes records

-- more than nine bytes, of which this is the first that differs from a log's name
pub record IsMisnamed (bytes : List ℕ) (at : ℕ) : Type 0 where
  pub is_long : 9 < length bytes
  pub is_within : at < length log_name
  pub are_same : take at bytes ≡ take at log_name
  pub differs : slice_get bytes at ≢ slice_get log_name at

-- behind an open gate stand a payload behind its length, and the next gate with what follows it
pub record HoldsPayload (behind payload next : List ℕ) : Type 0 where
  pub is_counted : IsCounted payload
  pub is_next : next ≢ []
  pub are_bytes : behind ≡ counted payload ++ next

-- behind an open gate, at this place, stand bytes that are no whole frame
pub record IsCutShort (gate at : ℕ) (behind : List ℕ) : Type 0 where
  pub is_at_gate : at ≡ gate
  pub has_more : behind ≢ []
  pub holds_none : (payload next : List ℕ) → ¬ HoldsPayload behind payload next

-- no record's spelling begins the bytes
abbrev pub BeginsNone : List ℕ → Type 0
BeginsNone bytes = (entry : Record) (rest : List ℕ) → IsSpellable entry
    → bytes ≢ spelling entry ++ rest

-- the payload behind an open gate spells some records, and then, at this place, none
pub record IsMisspelled (gate at : ℕ) (behind : List ℕ) : Type 0 where
  pub payload : List ℕ
  pub next : List ℕ
  pub holds : HoldsPayload behind payload next
  pub records : List Record
  pub rest : List ℕ
  pub are_spellable : All IsSpellable records
  pub are_bytes : payload ≡ spellings records ++ rest
  pub has_more : rest ≢ []
  pub begins_none : BeginsNone rest
  pub is_place : at ≡ gate + 5 + length (spellings records)

-- behind a log's name: frames of commits, then an open gate, and behind that no frame of a commit
pub record IsBroken (bytes : List ℕ) (at : ℕ) : Type 0 where
  pub commits : List (List Record)
  pub behind : List ℕ
  pub are_commits : All IsCommit commits
  pub are_bytes : bytes ≡ log_name ++ (frames commits ++ 1 ∷ behind)
  pub cause : let gate = length log_name + length (frames commits) in
      IsCutShort gate at behind ⊎ IsMisspelled gate at behind

-- another name, or a broken frame, which shows at this place
abbrev pub IsBad : List ℕ → ℕ → Type 0
IsBad bytes at = IsMisnamed bytes at ⊎ IsBroken bytes at

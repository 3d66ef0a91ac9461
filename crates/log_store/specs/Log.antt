-- The bytes of a log, and the records that they hold.
use Rattle.std.specs.Prelude.{◌≡◌, ◌≢◌, ◌⊎◌, ℕ, ◌≤◌, List, [], ◌∷◌, ◌++◌, length, codes, flat_map, All}
use Rattle.arn_base.specs.declared.records.Record.{Record}
use Rattle.result_log.specs.Spelling.{spelling, counted, FitsFields, HasSpelling, IsCounted}

-- what a log begins with
abbrev pub log_name : List ℕ
log_name = codes "ARNLOG01"

-- the spellings of records, each behind the one before
abbrev pub spellings : List Record → List ℕ
spellings records = flat_map spelling records

-- the record has a spelling, and its numbers fit their fields there
abbrev pub IsSpellable : Record → Type 0
IsSpellable entry = HasSpelling entry × FitsFields entry

-- records that a commit can hold: each has a spelling, and four bytes hold how long all these are
pub record IsCommit (records : List Record) : Type 0 where
  pub are_spellable : All IsSpellable records
  pub is_counted : IsCounted (spellings records)

-- the frame of a commit: an open gate, how long the payload is, and the payload
abbrev pub frame : List Record → List ℕ
frame records = 1 ∷ counted (spellings records)

-- the frames of commits, each behind the one before
abbrev pub frames : List (List Record) → List ℕ
frames commits = flat_map frame commits

-- the records of commits, in order
abbrev pub records_of : List (List Record) → List Record
records_of commits = flat_map (λ commit. commit) commits

-- a gate ends the frames where it isn't open, or where nothing stands behind it
abbrev pub IsEnd : List ℕ → Type 0
IsEnd [] = ⊥
IsEnd (gate ∷ behind) = (gate ≢ 1) ⊎ (behind ≡ [])

-- the bytes are the frames of these commits, and an end
pub record IsFrames (bytes : List ℕ) (commits : List (List Record)) : Type 0 where
  pub end : List ℕ
  pub are_commits : All IsCommit commits
  pub is_end : IsEnd end
  pub are_bytes : bytes ≡ frames commits ++ end

-- the bytes are a log's name, and frames of the commits
pub record IsNamedLog (bytes : List ℕ) (commits : List (List Record)) : Type 0 where
  pub behind : List ℕ
  pub is_named : bytes ≡ log_name ++ behind
  pub are_frames : IsFrames behind commits

-- The bytes are a log of the commits. At most nine bytes are a fresh log, of none, whatever they are.
abbrev pub IsLogOf : List ℕ → List (List Record) → Type 0
IsLogOf bytes commits = ((length bytes ≤ 9) × (commits ≡ [])) ⊎ IsNamedLog bytes commits

-- the bytes are a log of commits that hold these records
pub record IsLog (bytes : List ℕ) (records : List Record) : Type 0 where
  pub commits : List (List Record)
  pub is_log : IsLogOf bytes commits
  pub are_records : records ≡ records_of commits

-- a log of commits whose ending gate is 0, and is the last byte
abbrev pub closed_log : List (List Record) → List ℕ
closed_log commits = log_name ++ (frames commits ++ 0 ∷ [])

-- the bytes are such a log, and nothing stands behind its gate
pub record IsClosedLogOf (bytes : List ℕ) (commits : List (List Record)) : Type 0 where
  pub are_commits : All IsCommit commits
  pub are_bytes : bytes ≡ closed_log commits

-- what a store leaves: such a log of commits that hold these records
pub record IsClosedLog (bytes : List ℕ) (records : List Record) : Type 0 where
  pub commits : List (List Record)
  pub is_closed : IsClosedLogOf bytes commits
  pub are_records : records ≡ records_of commits

-- A store of records, and what it and a stop leave on a disk.
use Rattle.std.specs.Prelude.{◌≡◌, ◌⊎◌, ℕ, ◌≤◌, max, ◌++◌, Bool, List, length}
use Rattle.arn_base.specs.declared.records.Record.{Record}
use Rattle.log_store.specs.Log.{IsLog, IsClosedLog}
use Rattle.log_store.specs.Refused.{IsNoLog}
use Rattle.log_store.specs.declared.size.TheConstants.{MOST_LOG}

-- what a store holds: the records of a log, how long the log is, and whether it still knows that
pub record StoreState : Type 0 where
  pub entries : List Record
  pub log_len : ℕ
  pub usable : Bool

-- the bytes are as the store leaves them
pub record IsLeftBy (store : StoreState) (bytes : List ℕ) : Type 0 where
  pub is_log : IsClosedLog bytes store.entries
  pub is_whole : length bytes ≡ store.log_len

-- what is left of old bytes: a log of the same records where they were a log, else the same bytes
pub record KeepsRecords (old new : List ℕ) : Type 0 where
  pub same : (records : List Record) → IsLog old records → IsLog new records
  pub none : IsNoLog old → new ≡ old
  pub no_longer : length new ≤ max 9 (length old)

-- a log of the records from before a commit, or of these and the commit's, that isn't too long
pub record IsBeforeOrAfter (entries more : List Record) (bytes : List ℕ) : Type 0 where
  pub is_log : IsLog bytes entries ⊎ IsLog bytes (entries ++ more)
  pub fits : length bytes ≤ MOST_LOG

-- a stop now may leave a log of these records
pub record MayLeaveLog (may_leave : List ℕ → Type 0) (entries : List Record) : Type 0 where
  pub left : List ℕ
  pub may_be : may_leave left
  pub is_log : IsLog left entries

-- What holds of logs as a whole.
use Rattle.std.specs.Prelude.{◌≡◌, ℕ, List}
use Rattle.arn_base.specs.declared.records.Record.{Record}
use Rattle.log_store.specs.Log.{IsLog, IsClosedLog, IsClosedLogOf, IsLogOf}
use Rattle.log_store.specs.Refused.{IsBad, IsNoLog}

-- bytes are a log of one list of commits
abbrev pub CommitsReadOneWay : Type 0
CommitsReadOneWay = (bytes : List ℕ) (first second : List (List Record))
    → IsLogOf bytes first → IsLogOf bytes second → first ≡ second

-- and of one list of records
abbrev pub LogsReadOneWay : Type 0
LogsReadOneWay = (bytes : List ℕ) (first second : List Record)
    → IsLog bytes first → IsLog bytes second → first ≡ second

-- what a store leaves is a log
abbrev pub ClosedAreLogs : Type 0
ClosedAreLogs = (bytes : List ℕ) (records : List Record) → IsClosedLog bytes records
    → IsLog bytes records

-- of just the commits that it was left with
abbrev pub ClosedHoldCommits : Type 0
ClosedHoldCommits = (bytes : List ℕ) (commits : List (List Record)) → IsClosedLogOf bytes commits
    → IsLogOf bytes commits

-- bytes that have another name, or a broken frame, are no log
abbrev pub BadAreNone : Type 0
BadAreNone = (bytes : List ℕ) (at : ℕ) → IsBad bytes at → IsNoLog bytes

-- and that shows at one place
abbrev pub BadAtOnePlace : Type 0
BadAtOnePlace = (bytes : List ℕ) (first second : ℕ)
    → IsBad bytes first → IsBad bytes second → first ≡ second

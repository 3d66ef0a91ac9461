-- What holds of the records of a log, which is never long.
use Rattle.std.specs.Prelude.{◌≡◌, ◌≤◌, List, length, None}
use Rattle.arn_base.specs.declared.records.Record.{Record}
use Rattle.arn_model.specs.Run.{Input, machine_after}
use Rattle.arn_model.specs.Tells.{HasNumbers}
use Rattle.history_index.specs.Indexes.{AreCountable}
use Rattle.history_model.specs.Broken.{first_broken}
use Rattle.log_model.specs.Records.{IsRun, records}
use Rattle.log_store.specs.Log.{spellings}
use Rattle.log_store.specs.declared.size.TheConstants.{MOST_LOG}

-- 32 bits count its records, and the bytes of each
abbrev pub ShortLogsAreCountable : Type 0
ShortLogsAreCountable = (entries : List Record) → length (spellings entries) ≤ MOST_LOG → AreCountable entries

-- fewer than 2^63 processes were made in a run with so few records
abbrev pub ShortRunsHaveNumbers : Type 0
ShortRunsHaveNumbers =
    (inputs : List Input) → length (spellings (records inputs)) ≤ MOST_LOG → HasNumbers (machine_after inputs).kernel

-- and each of the records of a run can stand behind those before it
abbrev pub ShortRunsStand : Type 0
ShortRunsStand = (entries : List Record) → IsRun entries → length (spellings entries) ≤ MOST_LOG → first_broken entries ≡ None

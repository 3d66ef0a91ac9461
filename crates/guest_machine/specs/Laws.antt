-- What holds of runs and their records.
use Rattle.std.specs.Prelude.{◌≡◌, ◌<◌, ◌≤◌, ◌^◌, ℕ, List, ◌++◌, length}
use Rattle.arn_base.specs.declared.records.Record.{Record}
use Rattle.arn_model.specs.Run.{Input, machine_after}
use Rattle.log_model.specs.Records.{records, named}
use Rattle.guest_machine.specs.Recorded.{Recorded, Runs, IsAfter, HasRoom}

-- inputs that run after others lead to what both lead to
abbrev pub RunsFollow : Type 0
RunsFollow =
    (r r' : Recorded) (inputs more : List Input) (out out' : List Record) → IsAfter r inputs → Runs (machine_after inputs) more r r' out out' → IsAfter r' (inputs ++ more)

-- their records are those of the others, and behind them their own
abbrev pub RecordsFollow : Type 0
RecordsFollow =
    (r r' : Recorded) (inputs more : List Input) (out out' : List Record) → records inputs ≡ out → Runs (machine_after inputs) more r r' out out' → records (inputs ++ more) ≡ out'

-- the inputs that the records name lead to the same
abbrev pub NamedFollow : Type 0
NamedFollow = (r : Recorded) (inputs : List Input) → IsAfter r inputs → IsAfter r (named (records inputs))

-- what has few enough records has room for more
abbrev pub RecordsLeaveRoom : Type 0
RecordsLeaveRoom =
    (r : Recorded) (inputs : List Input) (events instructions : ℕ) → IsAfter r inputs → length (records inputs) < 2 ^ 63 → events ≤ 2 ^ 63 → instructions ≤ 2 ^ 64 → HasRoom r events instructions

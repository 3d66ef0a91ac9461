-- The bytes that a record is spelled by.
use Rattle.std.specs.Prelude.{ℕ, ◌<◌, ◌^◌, List, ◌++◌, All}
use Rattle.arn_base.specs.declared.records.Extra.{Extra}
use Rattle.arn_base.specs.declared.records.Extra.TheVariants as extra
use Rattle.arn_base.specs.declared.records.Record.{Record}
use Rattle.arn_base.specs.declared.records.Record.TheVariants as entry
use Rattle.schedule_log.specs.Schedule.{signal_spelling, slice_spelling, FitsDelivery, FitsSlice, IsSignal}
use Rattle.result_log.specs.States.{start_fields, FitsStart, StartHasSpelling}
pub use Rattle.schedule_log.specs.Fields.{counted, field, named, IsCounted, IsName}
pub use Rattle.exchange_log.specs.Gives.{give_fields, origin_fields, origins_fields, FitsOrigin, GiveHasSpelling}

-- what a call did beside its result: a tag in one byte, and the tag's fields
abbrev pub extra_fields : Extra → List ℕ
extra_fields extra.Nothing = field 1 0
extra_fields (extra.Give g) = field 1 1 ++ give_fields g
extra_fields (extra.Start s) = field 1 2 ++ start_fields s
extra_fields (extra.Put file at bytes) = field 1 3 ++ field 4 file ++ field 4 at ++ counted bytes
extra_fields (extra.Console bytes) = field 1 4 ++ counted bytes
extra_fields (extra.Reply device bytes) = field 1 5 ++ field 4 device ++ counted bytes
extra_fields extra.Fault = field 1 6
extra_fields extra.Absent = field 1 7
extra_fields (extra.Name file path) = field 1 8 ++ field 4 file ++ named path
extra_fields (extra.Sent device bytes) = field 1 9 ++ field 4 device ++ counted bytes

-- the spelling of a record: its kind in one byte, and the kind's fields
abbrev pub spelling : Record → List ℕ
spelling (entry.File name bytes) = field 1 1 ++ named name ++ counted bytes
spelling (entry.Boot name g) = field 1 2 ++ named name ++ give_fields g
spelling (entry.Typed bytes) = field 1 3 ++ counted bytes
spelling (entry.Unplug device) = field 1 4 ++ field 4 device
spelling (entry.Slice pid ran) = slice_spelling pid ran
spelling (entry.Signal pid signal cut handler) =
    signal_spelling (record { pid = pid; signal = signal; cut = cut; handler = handler })
spelling (entry.Call pid number answer did) = field 1 7 ++ field 4 pid ++ field 8 number ++ field 8 answer ++ extra_fields did
spelling (entry.End pid status) = field 1 8 ++ field 4 pid ++ field 1 status

-- what a call did has a spelling
abbrev pub ExtraHasSpelling : Extra → Type 0
ExtraHasSpelling extra.Nothing = Unit {0}
ExtraHasSpelling (extra.Give g) = GiveHasSpelling g
ExtraHasSpelling (extra.Start s) = StartHasSpelling s
ExtraHasSpelling (extra.Put file at bytes) = IsCounted bytes
ExtraHasSpelling (extra.Console bytes) = IsCounted bytes
ExtraHasSpelling (extra.Reply device bytes) = IsCounted bytes
ExtraHasSpelling extra.Fault = Unit {0}
ExtraHasSpelling extra.Absent = Unit {0}
ExtraHasSpelling (extra.Name file path) = IsName path
ExtraHasSpelling (extra.Sent device bytes) = IsCounted bytes

-- each number of what a call did fits its field
abbrev pub FitsExtra : Extra → Type 0
FitsExtra extra.Nothing = Unit {0}
FitsExtra (extra.Give g) = All FitsOrigin g.origins
FitsExtra (extra.Start s) = FitsStart s
FitsExtra (extra.Put file at bytes) = (file < 2 ^ 32) × (at < 2 ^ 32)
FitsExtra (extra.Console bytes) = Unit {0}
FitsExtra (extra.Reply device bytes) = device < 2 ^ 32
FitsExtra extra.Fault = Unit {0}
FitsExtra extra.Absent = Unit {0}
FitsExtra (extra.Name file path) = file < 2 ^ 32
FitsExtra (extra.Sent device bytes) = device < 2 ^ 32

-- each number of the record fits its field, as all numbers of its types do
abbrev pub FitsFields : Record → Type 0
FitsFields (entry.File name bytes) = Unit {0}
FitsFields (entry.Boot name g) = All FitsOrigin g.origins
FitsFields (entry.Typed bytes) = Unit {0}
FitsFields (entry.Unplug device) = device < 2 ^ 32
FitsFields (entry.Slice pid ran) = FitsSlice pid ran
FitsFields (entry.Signal pid signal cut handler) =
    FitsDelivery (record { pid = pid; signal = signal; cut = cut; handler = handler })
FitsFields (entry.Call pid number answer did) = (pid < 2 ^ 32) × (number < 2 ^ 64) × (answer < 2 ^ 64) × FitsExtra did
FitsFields (entry.End pid status) = (pid < 2 ^ 32) × (status < 2 ^ 8)

-- the record has a spelling: names and signals are such, and lists can be counted
abbrev pub HasSpelling : Record → Type 0
HasSpelling (entry.File name bytes) = IsName name × IsCounted bytes
HasSpelling (entry.Boot name g) = IsName name × GiveHasSpelling g
HasSpelling (entry.Typed bytes) = IsCounted bytes
HasSpelling (entry.Unplug device) = Unit {0}
HasSpelling (entry.Slice pid ran) = Unit {0}
HasSpelling (entry.Signal pid signal cut handler) = IsSignal signal
HasSpelling (entry.Call pid number answer did) = ExtraHasSpelling did
HasSpelling (entry.End pid status) = Unit {0}

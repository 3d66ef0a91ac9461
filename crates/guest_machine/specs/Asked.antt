-- What a slice asks a device, and what the record of its call says of the answer.
use Rattle.std.specs.Prelude.{◌≡◌, ℕ, nat_lt, if◌then◌else◌, List, [], ◌∷◌, ◌++◌, length, take, flat_map, Option, None, Some}
use Rattle.arn_base.specs.declared.records.Extra.{Extra}
use Rattle.arn_base.specs.declared.records.Extra.TheVariants as extra
use Rattle.arn_base.specs.declared.records.Record.{Record}
use Rattle.arn_base.specs.declared.records.Record.TheVariants as entry
use Rattle.rv64_model.specs.Instruction.{Effect, Next, Call, End}
use Rattle.parts_model.specs.Replies as replies
use Rattle.parts_model.specs.Replies.{Answered, TookBytes, Failed, IsHere, ReadReply, ReadFails, ReadAbsent, to_read}
use Rattle.acts_model.specs.Bodies.{View, seen}
use Rattle.acts_model.specs.Views.{stands_at}
use Rattle.arn_model.specs.Doing.{Request, Waits, Does, Asks}
use Rattle.arn_model.specs.Kernel.{Machine}
use Rattle.arn_model.specs.Row.{request}
use Rattle.arn_model.specs.Run.{input_steps}
use Rattle.arn_model.specs.Turn.{after_steps, plains}
use Rattle.log_model.specs.Records.{input_records}
use Rattle.guest_devices.specs.Answers.{Asked, Here, Reads, Writes}
use Rattle.guest_legs.specs.Legs.{Ask, Picked, input_of}
use Rattle.guest_calls.specs.Steps.{asked_of}
use Rattle.guest_machine.specs.Slices.{delivered}

-- what a call asks a device, if it asks one
abbrev pub asked_by : View → Request → Option Asked
asked_by v Waits = None
asked_by v (Does d) = None
asked_by v (Asks question) = Some (asked_of v question)

-- at an instruction a call alone asks
abbrev pub asked_at : Machine → ℕ → View → Effect → Option Asked
asked_at m pid v (Next instr cpu memory) = None
asked_at m pid v Call = asked_by v (request m pid v)
asked_at m pid v (End status) = None

-- a process that has ended asks nothing
abbrev pub asked_from : Machine → ℕ → Option View → Option Asked
asked_from m pid None = None
asked_from m pid (Some v) = asked_at m pid v (stands_at v)

-- what the turn of a process for so many instructions asks at its end
abbrev pub asked_in : ℕ → ℕ → Machine → Option Asked
asked_in count pid m =
    let plain = plains count pid (delivered pid m) in
    let m' = after_steps (delivered pid m) plain in
    if nat_lt (length plain) count then asked_from m' pid (seen m'.bodies pid) else None

-- and what a slice asks where it is taken
abbrev pub slice_asks : Ask → Picked → Option Asked
slice_asks ask s = asked_in s.pick.count s.pick.pid ask.machine

-- the records of a slice where it is taken
abbrev pub slice_entries : Ask → Picked → List Record
slice_entries ask s = input_records (input_of s) (input_steps ask.machine (input_of s))

-- and of slices, one after the other
abbrev pub entries_of : List Ask → List Picked → List Record
entries_of [] slices = []
entries_of (ask ∷ asks) [] = []
entries_of (ask ∷ asks) (s ∷ slices) = slice_entries ask s ++ entries_of asks slices

-- what the record of a call holds beside its result
abbrev pub extra_by : Record → List Extra
extra_by (entry.Call pid number result more) = more ∷ []
extra_by other = []

-- what the records of calls hold, in order
abbrev pub extras_in : List Record → List Extra
extras_in entries = flat_map extra_by entries

-- what the record of a read holds of a reply
abbrev pub read_extra : ℕ → ReadReply → Extra
read_extra n (replies.Reads bytes) = extra.Reply n bytes
read_extra n ReadFails = extra.Fault
read_extra n ReadAbsent = extra.Absent

-- what the record of a write of bytes holds of an answer
abbrev pub write_extra : ℕ → List ℕ → Answered → Extra
write_extra n bytes (TookBytes count) = extra.Sent n (take count bytes)
write_extra n bytes Failed = extra.Fault
write_extra n bytes other = extra.Absent

-- what the record of a call that opens a device holds of an answer
abbrev pub here_extra : Answered → Extra
here_extra IsHere = extra.Nothing
here_extra other = extra.Absent

-- what the record of a call that asks this holds of the answer
abbrev pub answer_extra : Asked → Answered → Extra
answer_extra (Here n) answer = here_extra answer
answer_extra (Reads n len) answer = read_extra n (to_read len (Some answer))
answer_extra (Writes n bytes) answer = write_extra n bytes answer

-- a record that holds no answer of a device that is there
abbrev pub HoldsNoAnswer : Extra → Type 0
HoldsNoAnswer (extra.Reply device bytes) = ⊥
HoldsNoAnswer (extra.Sent device bytes) = ⊥
HoldsNoAnswer extra.Fault = ⊥
HoldsNoAnswer other = Unit {0}

-- records that hold none
abbrev pub HoldNoAnswer : List Extra → Type 0
HoldNoAnswer [] = Unit {0}
HoldNoAnswer (more ∷ extras) = HoldsNoAnswer more × HoldNoAnswer extras

-- The records of a slice, by what it asks and what is answered: the one of its call holds the answer, and where it asks nothing, none holds
-- one.
abbrev pub AreOfAnswer : Option Asked → Option Answered → List Extra → Type 0
AreOfAnswer None reply extras = HoldNoAnswer extras
AreOfAnswer (Some asked) None extras = ⊥
AreOfAnswer (Some asked) (Some answer) extras = extras ≡ answer_extra asked answer ∷ []

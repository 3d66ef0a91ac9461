-- What holds of the records of runs.
use Rattle.std.specs.Prelude.{◌≡◌, ◌<◌, ◌≤◌, ◌*◌, ℕ, true, List, [], ◌∷◌, ◌++◌, length, filter, map, Option, None}
use Rattle.arn_base.specs.declared.records.Record.{Record}
use Rattle.parts_model.specs.declared.limits.TheConstants.{MOST_SLICE}
use Rattle.parts_model.specs.Replies.{Answered}
use Rattle.acts_model.specs.Records.{is_event}
use Rattle.arn_model.specs.Kernel.{Machine}
use Rattle.arn_model.specs.Run.{Input, Slice, run, input_steps, machine_after, events_of, instructions_in}
use Rattle.arn_model.specs.Step.{Step}
use Rattle.arn_model.specs.Turn.{is_possible}
use Rattle.log_model.specs.Records.{event_records, input_records, records, records_from, reply_behind, named, IsRun}

-- the records of inputs that come later stand behind those of the earlier ones
abbrev pub RecordsAppend : Type 0
RecordsAppend = (inputs more : List Input) → records (inputs ++ more) ≡ records inputs ++ records_from (machine_after inputs) more

-- the records of a run without its slices are those of its events, in order
abbrev pub EventsRecorded : Type 0
EventsRecorded = (inputs : List Input) → filter is_event (records inputs) ≡ map (λ event. event.entry) (events_of (run inputs))

-- the inputs that the records of a run name do the same again, step by step
abbrev pub NamedRunsAgain : Type 0
NamedRunsAgain = (inputs : List Input) → run (named (records inputs)) ≡ run inputs

-- so the records of any inputs are those of a run
abbrev pub RecordsAreRun : Type 0
RecordsAreRun = (inputs : List Input) → IsRun (records inputs)

-- a slice of some instructions that may run takes a step
abbrev pub SlicesTakeSteps : Type 0
SlicesTakeSteps = (m : Machine) (pid count : ℕ) (reply : Option Answered) → is_possible m pid count ≡ true → 0 < count → 0 < length (input_steps m (Slice pid count reply))

-- the slice that a process's slice with these steps is named as: of as many instructions as ran, with the reply that its last call names
abbrev pub slice_named : ℕ → List Step → Input
slice_named pid steps = Slice pid (instructions_in steps) (reply_behind (event_records steps))

-- A slice that may run does something. Its records name that slice alone, which does the same, as does the whole one with that reply.
pub record NamesSlice (m : Machine) (pid count : ℕ) (reply : Option Answered) : Type 0 where
  pub some : 0 < length (input_steps m (Slice pid count reply))
  pub named : named (input_records (Slice pid count reply) (input_steps m (Slice pid count reply))) ≡ slice_named pid (input_steps m (Slice pid count reply)) ∷ []
  pub again : input_steps m (slice_named pid (input_steps m (Slice pid count reply))) ≡ input_steps m (Slice pid count reply)
  pub whole : input_steps m (Slice pid count (reply_behind (event_records (input_steps m (Slice pid count reply))))) ≡ input_steps m (Slice pid count reply)

abbrev pub SlicesAreNamed : Type 0
SlicesAreNamed =
    (inputs : List Input) (pid count : ℕ) (reply : Option Answered) → is_possible (machine_after inputs) pid count ≡ true → 0 < count → NamesSlice (machine_after inputs) pid count reply

-- records that begin with no delivery and no call name what they name by themselves, behind others too
abbrev pub NamedAppend : Type 0
NamedAppend = (entries more : List Record) → reply_behind more ≡ None → named (entries ++ more) ≡ named entries ++ named more

abbrev pub BehindAppend : Type 0
BehindAppend = (entries more : List Record) → reply_behind more ≡ None → reply_behind (entries ++ more) ≡ reply_behind entries

-- and those of inputs begin so
abbrev pub RecordsBegin : Type 0
RecordsBegin = (m : Machine) (inputs : List Input) → reply_behind (records_from m inputs) ≡ None

-- each event of a run has a record, and for each record no more instructions ran than a slice may have
pub record RecordsCover (inputs : List Input) : Type 0 where
  pub events : (machine_after inputs).events ≤ length (records inputs)
  pub instructions : instructions_in (run inputs) ≤ MOST_SLICE * length (records inputs)

abbrev pub RecordsBound : Type 0
RecordsBound = (inputs : List Input) → RecordsCover inputs

-- The records of a run, and the inputs that records name.
use Rattle.std.specs.Prelude.{◌≡◌, ℕ, List, [], ◌∷◌, ◌++◌, map, Option, None}
use Rattle.arn_base.specs.declared.records.Record.{Record}
use Rattle.arn_base.specs.declared.records.Record.TheVariants as entry
use Rattle.parts_model.specs.Replies.{Answered, reply_named}
use Rattle.arn_model.specs.Kernel.{Machine, at_first}
use Rattle.arn_model.specs.Run.{Input, File, Boot, Typed, Unplug, Slice, input_steps, after_input, events_of, instructions_in}
use Rattle.arn_model.specs.Step.{Step}

-- the records of the steps' events, in order
abbrev pub event_records : List Step → List Record
event_records steps = map (λ event. event.entry) (events_of steps)

-- the records of a slice: how many instructions of it ran, and its events; a slice without a step has none
abbrev pub slice_records : ℕ → List Step → List Record
slice_records pid [] = []
slice_records pid (s ∷ steps) = entry.Slice pid (instructions_in (s ∷ steps)) ∷ event_records (s ∷ steps)

-- the records of an input with these steps
abbrev pub input_records : Input → List Step → List Record
input_records (File name bytes) steps = event_records steps
input_records (Boot name) steps = event_records steps
input_records (Typed bytes) steps = event_records steps
input_records (Unplug device) steps = event_records steps
input_records (Slice pid count reply) steps = slice_records pid steps

-- the records of inputs from a machine on
abbrev pub records_from : Machine → List Input → List Record
records_from m [] = []
records_from m (i ∷ inputs) = input_records i (input_steps m i) ++ records_from (after_input m i) inputs

-- the records of a whole run
abbrev pub records : List Input → List Record
records inputs = records_from at_first inputs

-- the reply that is named behind a slice: by the call with which it ends, which at most a delivery comes before
abbrev pub reply_behind : List Record → Option Answered
reply_behind [] = None
reply_behind (entry.Signal pid signal cut handler ∷ entries) = reply_behind entries
reply_behind (entry.Call pid number result more ∷ entries) = reply_named (entry.Call pid number result more)
reply_behind (other ∷ entries) = None

-- The inputs that records name: what came from outside without what was received of it, and slices of as many instructions as ran, with the
-- replies that they ended with
abbrev pub named : List Record → List Input
named [] = []
named (entry.File name bytes ∷ entries) = File name bytes ∷ named entries
named (entry.Boot name give ∷ entries) = Boot name ∷ named entries
named (entry.Typed bytes ∷ entries) = Typed bytes ∷ named entries
named (entry.Unplug device ∷ entries) = Unplug device ∷ named entries
named (entry.Slice pid ran ∷ entries) = Slice pid ran (reply_behind entries) ∷ named entries
named (entry.Signal pid signal cut handler ∷ entries) = named entries
named (entry.Call pid number result more ∷ entries) = named entries
named (entry.End pid status ∷ entries) = named entries

-- the records are those of a run: of the inputs that they name
abbrev pub IsRun : List Record → Type 0
IsRun entries = entries ≡ records (named entries)

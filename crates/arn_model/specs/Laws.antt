-- What holds of every run.
use Rattle.std.specs.Prelude.{◌≡◌, ◌≤◌, ◌+◌, ◌==◌, ℕ, false, List, ◌++◌, length, Option, Some, None}
use Rattle.arn_base.specs.declared.records.Extra.{Extra}
use Rattle.arn_base.specs.declared.records.Extra.TheVariants as extra
use Rattle.parts_model.specs.declared.calls.TheConstants.{FORK}
use Rattle.parts_model.specs.declared.limits.TheConstants.{MOST_TRANSFER}
use Rattle.parts_model.specs.declared.tagged.TaggedByte.{TaggedByte}
use Rattle.parts_model.specs.Replies.{Answered, reply_named}
use Rattle.acts_model.specs.Bodies.{View}
use Rattle.acts_model.specs.Moved.{Event}
use Rattle.acts_model.specs.Views.{call_number}
use Rattle.arn_model.specs.Doing.{Doing, Question, Here, Reads, Writes, Asks}
use Rattle.arn_model.specs.Kernel.{Kernel, Machine, at_first, booted, ended, forked}
use Rattle.arn_model.specs.Row.{does, request}
use Rattle.arn_model.specs.Run.{Input, steps_from, machine_from, run, machine_after}
use Rattle.arn_model.specs.Sound.{IsSoundMachine}
use Rattle.arn_model.specs.Step.{Step}
use Rattle.arn_model.specs.Tells.{StepTells, HasNumbers, Along}
use Rattle.arn_model.specs.Turn.{turn, after_steps}

-- each step of a run is one of a few kinds, and an event is as its record tells, while processes have numbers
abbrev pub StepsTell : Type 0
StepsTell = (inputs : List Input) → HasNumbers (machine_after inputs).kernel → Along StepTells at_first (run inputs)

-- as many numbers have been given to processes, or more
abbrev pub KeepsNumbers : Machine → Step → Type 0
KeepsNumbers m s = length m.kernel.processes ≤ length s.after.kernel.processes

-- A run's machine is sound before each step and at the end, no step gives a process's number again, and no more processes were made than
-- there were events.
pub record RunIsSound (inputs : List Input) : Type 0 where
  pub along : Along (λ m s. IsSoundMachine m) at_first (run inputs)
  pub last : IsSoundMachine (machine_after inputs)
  pub numbers : Along KeepsNumbers at_first (run inputs)
  pub few : length (machine_after inputs).kernel.processes ≤ (machine_after inputs).events

abbrev pub EachRunIsSound : Type 0
EachRunIsSound = (inputs : List Input) → RunIsSound inputs

-- what inputs do that stand one behind the other
pub record RunsAppend (m : Machine) (inputs more : List Input) : Type 0 where
  pub steps : steps_from m (inputs ++ more) ≡ steps_from m inputs ++ steps_from (machine_from m inputs) more
  pub machine : machine_from m (inputs ++ more) ≡ machine_from (machine_from m inputs) more
  pub reached : machine_from m inputs ≡ after_steps m (steps_from m inputs)

abbrev pub EachRunAppends : Type 0
EachRunAppends = (m : Machine) (inputs more : List Input) → RunsAppend m inputs more

-- the reply that the record of a step names
abbrev pub reply_of_event : Option Event → Option Answered
reply_of_event None = None
reply_of_event (Some event) = reply_named event.entry

abbrev pub reply_told : Option Step → Option Answered
reply_told None = None
reply_told (Some s) = reply_of_event s.moved.inside.event

-- a turn is the same with the reply that the record of its last step names
abbrev pub ReplyIsTold : ℕ → ℕ → Option Answered → Machine → Type 0
ReplyIsTold n pid reply m = let t = turn n pid reply m in turn n pid (reply_told t.last) m ≡ t

abbrev pub RepliesAreTold : Type 0
RepliesAreTold = (inputs : List Input) (n pid : ℕ) (reply : Option Answered) → ReplyIsTold n pid reply (machine_after inputs)

-- a record that doesn't say how a child begins
abbrev pub NoStart : Extra → Type 0
NoStart (extra.Start start) = ⊥
NoStart more = Unit {0}

-- a device is asked for no more bytes than one call moves, or to take no more
abbrev pub FewBytes : Question → Type 0
FewBytes (Here device) = Unit {0}
FewBytes (Reads device at len) = len ≤ MOST_TRANSFER
FewBytes (Writes device at len) = len ≤ MOST_TRANSFER

-- Whatever a device replies, a call that isn't a fork leaves the number of processes and tells of no child; and a question is about few bytes.
pub record RequestIsBounded (m : Machine) (pid : ℕ) (v : View) : Type 0 where
  pub many : (reply : Option Answered) (d : Doing) → does m pid v reply (request m pid v) ≡ Some d → (call_number v.body.cpu == FORK) ≡ false
      → length d.kernel.processes ≡ length m.kernel.processes
  pub no_start : (reply : Option Answered) (d : Doing) → does m pid v reply (request m pid v) ≡ Some d → (call_number v.body.cpu == FORK) ≡ false → NoStart d.extra
  pub small_question : (question : Question) → request m pid v ≡ Asks question → FewBytes question

abbrev pub RequestsAreBounded : Type 0
RequestsAreBounded = (m : Machine) (pid : ℕ) (v : View) → RequestIsBounded m pid v

-- a fork and a boot make one process, and an end takes none out of the count
pub record ProcessesCount : Type 0 where
  pub after_end : (pid : ℕ) (status : TaggedByte) (k : Kernel) → length (ended pid status k).processes ≡ length k.processes
  pub after_fork : (pid : ℕ) (k : Kernel) → length (forked pid k).processes ≡ length k.processes + 1
  pub after_boot : (k : Kernel) → length (booted k).processes ≡ length k.processes + 1

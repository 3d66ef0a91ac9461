-- What holds of the records of runs, and of groups alone.
use Rattle.std.specs.Prelude.{◌≡◌, ℕ, false, if◌then◌else◌, List, length, map, Option, Some, None, IfSome, option_map, option_and_then}
use Rattle.std.specs.List.{range_with_len}
use Rattle.acts_model.specs.Bodies.{Bodies, body_at, seen}
use Rattle.arn_model.specs.Kernel.{Machine}
use Rattle.arn_model.specs.Run as run
use Rattle.arn_model.specs.Run.{Input, machine_after, state_at, instructions_in, is_free, within, events_of}
use Rattle.arn_model.specs.Tells.{HasNumbers, lives}
use Rattle.parts_model.specs.Files.{Files, find_file, file_bytes}
use Rattle.parts_model.specs.Tagged.{values}
use Rattle.history_model.specs.Alone.{Own, Makes, alone}
use Rattle.history_model.specs.Events.{how_many}
use Rattle.history_model.specs.Groups.{Groups, group_of, is_number}
use Rattle.history_model.specs.Moments.{total, events_until, lives_at, segment_at}
use Rattle.history_model.specs.Names as names
use Rattle.history_model.specs.Unplugged.{unplugged_in}
use Rattle.log_model.specs.Records.{records}
use Rattle.replay_laws.specs.Heard.{heard_at}

-- the bodies are those of the machine's live processes of the group, and these see the same
pub record IsRestriction (g : ℕ) (groups : Groups) (m : Machine) (own : Bodies) : Type 0 where
  pub bodies : (pid : ℕ) → body_at own pid ≡ (if is_number g (groups pid) then body_at m.bodies pid else None)
  pub views : (pid : ℕ) → groups pid ≡ Some g → seen own pid ≡ seen m.bodies pid

-- A group alone, made from the records of a run, doesn't disagree. It is at each moment what the whole machine holds of it, and what
-- happened inside it is the group's part of the run.
pub record PassesThrough (inputs : List Input) (g moment : ℕ) : Type 0 where
  pub own : Own
  pub made : alone (records inputs) g moment ≡ Makes own
  pub whole : IsRestriction g (group_of (records inputs)) (state_at inputs moment) own.bodies
  pub heard : own.inside ≡ heard_at inputs g moment

abbrev pub GroupsPassThrough : Type 0
GroupsPassThrough = (inputs : List Input) (g moment : ℕ) → HasNumbers (machine_after inputs).kernel → PassesThrough inputs g moment

-- the segment that a live process holds
abbrev pub segment_held : Bodies → ℕ → Option ℕ
segment_held bodies pid = option_and_then (λ x. x.segment) (body_at bodies pid)

-- at a moment the records tell who lives, and which segment each live process holds
pub record TellsMoment (inputs : List Input) (moment pid : ℕ) : Type 0 where
  pub lives : lives_at (records inputs) moment pid ≡ lives (state_at inputs moment).kernel pid
  pub holds : IfSome (body_at (state_at inputs moment).bodies pid) (λ x. segment_at (records inputs) moment pid ≡ x.segment)

-- the bytes of the file with this name
abbrev pub named_bytes : Files → List ℕ → Option (List ℕ)
named_bytes files name = option_map values (option_and_then (file_bytes files) (find_file files name))

-- the records tell how many instructions have run and how many events there have been, whether a process was made, which file a name
-- stands for, and which devices were unplugged; and until a process is made, the bytes of files, and whether one more may be brought
pub record TellsRun (inputs : List Input) : Type 0 where
  pub instructions : total (records inputs) ≡ instructions_in (run.run inputs)
  pub events : how_many (records inputs) ≡ (machine_after inputs).events
  pub booted : names.is_booted (records inputs) ≡ run.is_booted (machine_after inputs)
  pub named : (name : List ℕ) → names.file_named (records inputs) name ≡ find_file (machine_after inputs).kernel.files name
  pub unplugged : unplugged_in (records inputs) ≡ (machine_after inputs).kernel.unplugged
  pub brought : run.is_booted (machine_after inputs) ≡ false → (name : List ℕ) → names.brought (records inputs) name ≡ named_bytes (machine_after inputs).kernel.files name
  pub may_bring : run.is_booted (machine_after inputs) ≡ false → (name : List ℕ) → names.may_bring (records inputs) name ≡ is_free (machine_after inputs).kernel.files name

abbrev pub RecordsTellMoments : Type 0
RecordsTellMoments = (inputs : List Input) (moment pid : ℕ) → HasNumbers (machine_after inputs).kernel → TellsMoment inputs moment pid

-- the events that have happened at a moment, as the records tell, are the first ones: as many as the run has had up to it
abbrev pub RecordsTellEvents : Type 0
RecordsTellEvents =
    (inputs : List Input) (moment : ℕ)
    → map (λ e. e.number) (events_until moment (records inputs)) ≡ range_with_len 0 (length (events_of (within moment (run.run inputs))))

abbrev pub RecordsTellRuns : Type 0
RecordsTellRuns = (inputs : List Input) → HasNumbers (machine_after inputs).kernel → TellsRun inputs

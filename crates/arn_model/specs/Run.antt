-- What comes from outside, what it does, and whole runs: moments, past states, events.
use Rattle.std.specs.Prelude.{ℕ, zero, suc, ◌+◌, nat_le, nat_lt, ◌&&◌, not, Bool, true, false, if◌then◌else◌, List, [], ◌∷◌, ◌++◌, length, filter_map, count_by, Option, Some, None, is_some}
use Rattle.arn_base.specs.declared.records.Record.{Record}
use Rattle.arn_base.specs.declared.records.Record.TheVariants as entry
use Rattle.parts_model.specs.declared.limits.TheConstants.{MOST_FILE_BYTES}
use Rattle.parts_model.specs.declared.tagged.TaggedByte.{TaggedByte}
use Rattle.parts_model.specs.Channel.{channel_end, put_behind}
use Rattle.parts_model.specs.Files.{Files, is_name, find_file, file_bytes, is_full, made, next_file}
use Rattle.parts_model.specs.Image.{is_image}
use Rattle.parts_model.specs.Replies.{Answered}
use Rattle.parts_model.specs.Tagged.{held_bytes, values, given}
use Rattle.acts_model.specs.Acts.{Starts, unborn, done}
use Rattle.acts_model.specs.Bodies.{put}
use Rattle.acts_model.specs.Moved.{Event, Outside, From, Range, ConsoleByte, FileByte, is_instruction}
use Rattle.acts_model.specs.Transfers.{Arrives, holds_of, transfer}
use Rattle.acts_model.specs.Views.{cpu_at}
use Rattle.arn_model.specs.Kernel.{Kernel, Machine, at_first, booted}
use Rattle.arn_model.specs.Step.{Step}
use Rattle.arn_model.specs.TransferCalls.{was_unplugged}
use Rattle.arn_model.specs.Turn.{after_steps, turn, steps_of, is_possible}

-- What comes to the machine, in order. The order of steps is part of it: a slice says which process goes on, for at most how many
-- instructions, and what a device answers if the slice ends with a call that asks one
pub data Input : Type 0 where
  File : (path bytes : List ℕ) → Input
  Boot : (path : List ℕ) → Input
  Typed : (bytes : List ℕ) → Input
  Unplug : (device : ℕ) → Input
  Slice : (pid count : ℕ) → (reply : Option Answered) → Input

-- there has been a process: nothing is added any more, and the console takes bytes
abbrev pub is_booted : Machine → Bool
is_booted m = nat_lt 0 (length m.kernel.processes)

-- something comes from outside, to no process
abbrev pub outside_step : Machine → Record → List ℕ → Option Range → Kernel → Step
outside_step m entry bytes outgoing k =
    record {
      moved =
          record {
            inside =
                record {
                  actor = None;
                  before = cpu_at 0;
                  transfer = Arrives (length bytes);
                  event = Some (record { number = m.events; entry = entry });
                };
            incoming = Outside;
            outgoing = outgoing;
          };
      bytes = bytes;
      after = record { bodies = m.bodies; kernel = k; events = m.events + 1 };
    }

-- a boot file
abbrev pub file_step : Machine → List ℕ → List ℕ → Step
file_step m path bytes =
    outside_step m (entry.File path bytes) bytes (Some (record { first = FileByte (next_file m.kernel.files) 0; len = length bytes }))
    (record m.kernel { files = made m.kernel.files path (held_bytes m.events bytes) })

-- a typed piece goes behind the console's queue
abbrev pub typed_step : Machine → List ℕ → Step
typed_step m bytes =
    outside_step m (entry.Typed bytes) bytes (Some (record { first = ConsoleByte (channel_end m.kernel.console); len = length bytes }))
    (record m.kernel { console = put_behind m.kernel.console m.events bytes })

-- a device is unplugged
abbrev pub unplug_step : Machine → ℕ → Step
unplug_step m device = outside_step m (entry.Unplug device) [] None (record m.kernel { unplugged = m.kernel.unplugged ++ device ∷ [] })

-- process 1, which starts group 1, begins with the image in a file
abbrev pub boot_step : Machine → List ℕ → ℕ → List TaggedByte → Step
boot_step m path file held =
    let before = unborn m.events in
    let act = Starts (values held) 0 0 in
    record {
      moved =
          record {
            inside =
                record {
                  actor = Some 1;
                  before = before.body.cpu;
                  transfer = transfer 1 m.events (holds_of before.body) act;
                  event = Some (record { number = m.events; entry = entry.Boot path (given held) });
                };
            incoming = From (record { first = FileByte file 0; len = length held });
            outgoing = None;
          };
      bytes = values held;
      after = record { bodies = done 1 m.events act (put 1 before m.bodies); kernel = booted m.kernel; events = m.events + 1 };
    }

-- the name is free, and one more file may be made
abbrev pub is_free : Files → List ℕ → Bool
is_free files path = not (is_some (find_file files path)) && not (is_full files)

-- a boot file is added before boot, under a free name
abbrev pub can_add : Machine → List ℕ → List ℕ → Bool
can_add m path bytes = not (is_booted m) && (is_free m.kernel.files path && (is_name path && nat_le (length bytes) MOST_FILE_BYTES))

-- a boot from a file, if its bytes are an image
abbrev pub boot_from : Machine → List ℕ → ℕ → Option (List TaggedByte) → List Step
boot_from m path file None = []
boot_from m path file (Some held) = if is_image (values held) then boot_step m path file held ∷ [] else []

-- where there is a file of the name
abbrev pub boot_found : Machine → List ℕ → Option ℕ → List Step
boot_found m path None = []
boot_found m path (Some file) = boot_from m path file (file_bytes m.kernel.files file)

-- a device is unplugged once
abbrev pub may_unplug : Machine → ℕ → Bool
may_unplug m device = is_booted m && not (was_unplugged m.kernel device)

-- the steps of an input: what it does where it can, else nothing
abbrev pub input_steps : Machine → Input → List Step
input_steps m (File path bytes) = if can_add m path bytes then file_step m path bytes ∷ [] else []
input_steps m (Boot path) = if is_booted m then [] else boot_found m path (find_file m.kernel.files path)
input_steps m (Typed bytes) = if is_booted m then typed_step m bytes ∷ [] else []
input_steps m (Unplug device) = if may_unplug m device then unplug_step m device ∷ [] else []
input_steps m (Slice pid count reply) = if is_possible m pid count then steps_of (turn count pid reply m) else []

-- the machine after an input
abbrev pub after_input : Machine → Input → Machine
after_input m i = after_steps m (input_steps m i)

-- the steps of inputs from a machine on
abbrev pub steps_from : Machine → List Input → List Step
steps_from m [] = []
steps_from m (i ∷ inputs) = input_steps m i ++ steps_from (after_input m i) inputs

-- the machine after inputs
abbrev pub machine_from : Machine → List Input → Machine
machine_from m [] = m
machine_from m (i ∷ inputs) = machine_from (after_input m i) inputs

-- all that happens from the start, and where it leads
abbrev pub run : List Input → List Step
run inputs = steps_from at_first inputs

abbrev pub machine_after : List Input → Machine
machine_after inputs = machine_from at_first inputs

-- how many of the steps are instructions
abbrev pub instructions_in : List Step → ℕ
instructions_in steps = count_by (λ s. is_instruction s.moved.inside) steps

-- what follows before instruction number `moment`
abbrev pub unless_reached : Bool → ℕ → (ℕ → List Step) → List Step
unless_reached false moment rest = rest moment
unless_reached true zero rest = []
unless_reached true (suc moment) rest = rest moment

-- the steps of which so many are instructions, and those behind them up to the next instruction
abbrev pub within : ℕ → List Step → List Step
within moment [] = []
within moment (s ∷ steps) = unless_reached (is_instruction s.moved.inside) moment (λ left. s ∷ within left steps)

-- the last state in which so many instructions have run
abbrev pub state_at : List Input → ℕ → Machine
state_at inputs moment = after_steps at_first (within moment (run inputs))

-- the events of steps; event n is the n-th of a run, from 0
abbrev pub events_of : List Step → List Event
events_of steps = filter_map (λ s. s.moved.inside.event) steps

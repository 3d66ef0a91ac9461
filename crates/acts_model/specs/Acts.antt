-- What a step other than a plain instruction does to bodies. The same text serves the whole machine and a group alone.
use Rattle.std.specs.Prelude.{ℕ, Bool, if◌then◌else◌, List, [], length, Option, Some, None}
use Rattle.arn_base.specs.declared.machine.Cpu.{Cpu}
use Rattle.arn_base.specs.declared.records.Start.{Start}
use Rattle.parts_model.specs.declared.limits.TheConstants.{WINDOW_LEN, SEGMENT_LEN}
use Rattle.parts_model.specs.declared.refusals.TheConstants.{INTERRUPTED}
use Rattle.parts_model.specs.Blocks.{blocks_of, with_blocks}
use Rattle.parts_model.specs.Image.{Image, read_as_image}
use Rattle.parts_model.specs.Memory.{zeros}
use Rattle.rv64_model.specs.Registers.{with_register}
use Rattle.acts_model.specs.Bodies.{Bodies, View, seen, put, become}
use Rattle.acts_model.specs.Views.{read, written, with_result, returned, error, window_at_start, cpu_at, cpu_at_start}

pub data Act : Type 0 where
  -- a call that moves no bytes ends with a result
  Returns : (result : ℕ) → Act
  -- it received bytes at an address
  Receives : (at : ℕ) → (bytes : List ℕ) → (result : ℕ) → Act
  -- it gave so many bytes from an address
  Gives : (at len result : ℕ) → Act
  -- the process starts anew from an image file, with an argument block
  Starts : (file : List ℕ) → (block block_len : ℕ) → Act
  -- it makes a child in its own group
  Forks : (child : ℕ) → Act
  -- it makes a child that starts a group: to itself this is a result, and no more
  Founds : (child : ℕ) → Act
  -- it gets a fresh segment
  Shares : Act
  -- it leaves a handler
  Leaves : Act
  -- a signal is delivered to its handler; `cut` says that this ended a call that wasn't ready
  Delivers : (signal handler : ℕ) → (cut : Bool) → Act
  -- the process ends by a call, by a fault, or by a signal
  Exits : Act
  Faults : (status : ℕ) → Act
  Dies : (signal : ℕ) → (cut : Bool) → Act

-- the registers after a delivery has ended a call, if it did
abbrev pub cut_off : Bool → Cpu → Cpu
cut_off cut cpu = if cut then returned cpu (error INTERRUPTED) else cpu

-- a process as a handler begins: what the slot keeps is what the handler interrupts
abbrev pub delivered : ℕ → ℕ → Cpu → View → View
delivered signal handler cpu v = record v { body = record v.body { cpu = record (with_register cpu 10 signal) { pc = handler }; slot = Some cpu } }

-- as it ends: without one nothing is restored
abbrev pub restored : Option Cpu → View → View
restored None v = v
restored (Some cpu) v = record v { body = record v.body { cpu = cpu; slot = None } }

-- a process that starts from an image at an event, with an argument block
abbrev pub started : ℕ → Image → List ℕ → View
started event image block =
    record {
      body = record { cpu = cpu_at_start image.entry (length block); slot = None; window = event; segment = None };
      window = window_at_start image block;
      segment = [];
    }

-- a fresh segment is zeros
abbrev pub with_fresh_segment : ℕ → View → View
with_fresh_segment event v = record v { body = record v.body { segment = Some event }; segment = zeros SEGMENT_LEN }

-- what a process sees after its own act at an event; none where it lives no more
abbrev pub acted : ℕ → Act → View → Option View
acted event (Returns result) v = Some (with_result result v)
acted event (Receives at bytes result) v = Some (with_result result (written at bytes v))
acted event (Gives at len result) v = Some (with_result result v)
acted event (Starts file block block_len) v = Some (started event (read_as_image file) (read v block block_len))
acted event (Forks child) v = Some (with_result child v)
acted event (Founds child) v = Some (with_result child v)
acted event Shares v = Some (with_result 0 (with_fresh_segment event v))
acted event Leaves v = Some (restored v.body.slot v)
acted event (Delivers signal handler cut) v = Some (delivered signal handler (cut_off cut v.body.cpu) v)
acted event Exits v = None
acted event (Faults status) v = None
acted event (Dies signal cut) v = None

-- how a child begins: its registers, what its slot keeps, and the bytes of its private window
pub record Beginning : Type 0 where
  pub cpu : Cpu
  pub slot : Option Cpu
  pub window : List ℕ

-- behind the fork, with result 0
abbrev pub beginning_of : View → Beginning
beginning_of v = record { cpu = returned v.body.cpu 0; slot = v.body.slot; window = v.window }

-- as a record holds it
abbrev pub start_of : Beginning → Start
start_of b = record { cpu = b.cpu; slot = b.slot; blocks = blocks_of b.window }

-- and as it is read from one
abbrev pub beginning_in : Start → Beginning
beginning_in start = record { cpu = start.cpu; slot = start.slot; window = with_blocks start.blocks (zeros WINDOW_LEN) }

-- a child made at an event, with a window of its own
abbrev pub child_view : ℕ → Beginning → Option ℕ → List ℕ → View
child_view event b segment bytes =
    record { body = record { cpu = b.cpu; slot = b.slot; window = event; segment = segment }; window = b.window; segment = bytes }

-- a group's first process holds no segment
abbrev pub begun : ℕ → ℕ → Beginning → Bodies → Bodies
begun child event b bodies = put child (child_view event b None []) bodies

-- a child in the parent's group shares the parent's segment
abbrev pub joined : Act → ℕ → View → Bodies → Bodies
joined (Forks child) event v bodies = put child (child_view event (beginning_of v) v.body.segment v.segment) bodies
joined act event v bodies = bodies

abbrev pub done_by : ℕ → ℕ → Act → Option View → Bodies → Bodies
done_by pid event act None bodies = bodies
done_by pid event act (Some v) bodies = joined act event v (become pid (acted event act v) bodies)

-- what an act of a process at an event does in that process's group
abbrev pub done : ℕ → ℕ → Act → Bodies → Bodies
done pid event act bodies = done_by pid event act (seen bodies pid) bodies

-- and what it does beside: a child starts a group
abbrev pub founded : Act → ℕ → Beginning → Bodies → Bodies
founded (Founds child) event b bodies = begun child event b bodies
founded act event b bodies = bodies

-- what process 1 sees before it starts from its image: zeros
abbrev pub unborn : ℕ → View
unborn event =
    record { body = record { cpu = cpu_at 0; slot = None; window = event; segment = None }; window = zeros WINDOW_LEN; segment = [] }

-- the result that a call's record holds
abbrev pub result_of : Act → ℕ
result_of (Returns result) = result
result_of (Receives at bytes result) = result
result_of (Gives at len result) = result
result_of (Starts file block block_len) = 0
result_of (Forks child) = child
result_of (Founds child) = child
result_of Shares = 0
result_of Leaves = 0
result_of (Delivers signal handler cut) = 0
result_of Exits = 0
result_of (Faults status) = 0
result_of (Dies signal cut) = 0

-- Which bytes a step moves. Its places are memories and addresses in them, so that nobody need know what holds them.
use Rattle.std.specs.Prelude.{ℕ, ◌==◌, nat_le, nat_lt, ◌&&◌, Bool, if◌then◌else◌, length, Option, Some, None, option_map, option_and_then}
use Rattle.arn_base.specs.declared.machine.Cpu.{Cpu}
use Rattle.rv64_isa.specs.declared.instruction.Instr.{Instr}
use Rattle.rv64_model.specs.Operands.{accessed}
use Rattle.parts_model.specs.declared.limits.TheConstants.{WINDOW_START, WINDOW_END, SEGMENT_START, SEGMENT_END}
use Rattle.parts_model.specs.Image.{read_as_image}
use Rattle.acts_model.specs.Acts as act
use Rattle.acts_model.specs.Bodies.{Body}

-- an address in a memory
pub record Place : Type 0 where
  pub made : ℕ
  pub at : ℕ

-- the memories that a process holds
pub record Holds : Type 0 where
  pub window : ℕ
  pub segment : Option ℕ

abbrev pub holds_of : Body → Holds
holds_of x = record { window = x.window; segment = x.segment }

-- the address is one of the private window
abbrev pub is_private : ℕ → Bool
is_private at = nat_le WINDOW_START at && nat_lt at WINDOW_END

-- or of the shared one
abbrev pub is_shared : ℕ → Bool
is_shared at = nat_le SEGMENT_START at && nat_lt at SEGMENT_END

-- the memory in which an address lies
abbrev pub memory_at : Holds → ℕ → Option ℕ
memory_at holds at = if is_private at then Some holds.window else if is_shared at then holds.segment else None

-- where it lies
abbrev pub place_at : Holds → ℕ → Option Place
place_at holds at = option_map (λ made. record { made = made; at = at }) (memory_at holds at)

-- where so many bytes from an address on lie: nowhere, if there are none
abbrev pub place_of : Holds → ℕ → ℕ → Option Place
place_of holds at len = if len == 0 then None else place_at holds at

pub data Transfer : Type 0 where
  -- so many bytes come from outside, to no process
  Arrives : (len : ℕ) → Transfer
  -- a process starts from an image file of so many bytes, whose body lies at `load` of a new memory, with an argument block at the end
  Starts : (pid made load len : ℕ) → (block : Option Place) → (block_len : ℕ) → Transfer
  -- an instruction that the next one follows. A load or a store has its place
  Runs : (pid : ℕ) → Instr → (place : Option Place) → Transfer
  -- a call that moves no bytes. Its result is in x10, as that of each call that returns
  Returns : (pid : ℕ) → Transfer
  -- it received, or gave, so many bytes
  Receives : (pid : ℕ) → (place : Option Place) → (len : ℕ) → Transfer
  Gives : (pid : ℕ) → (place : Option Place) → (len : ℕ) → Transfer
  -- a child in the group gets a copy of the memory `from` as a memory `into`, or one does that starts a group
  Forks : (pid child from into : ℕ) → Transfer
  Founds : (pid child from into : ℕ) → Transfer
  -- it begins there
  Begins : (pid made : ℕ) → Transfer
  -- a fresh segment
  Shares : (pid made : ℕ) → Transfer
  -- a delivery to a handler, and the return from it
  Delivers : (pid : ℕ) → (cut : Bool) → Transfer
  Leaves : (pid : ℕ) → Transfer
  -- the process ends by a call, whose status is in x10, by a fault, or by a signal
  Exits : (pid : ℕ) → Transfer
  Faults : (pid : ℕ) → Transfer
  Dies : (pid : ℕ) → Transfer

-- what an act of a process moves at an event
abbrev pub transfer : ℕ → ℕ → Holds → act.Act → Transfer
transfer pid event holds (act.Returns result) = Returns pid
transfer pid event holds (act.Receives at bytes result) = Receives pid (place_of holds at (length bytes)) (length bytes)
transfer pid event holds (act.Gives at len result) = Gives pid (place_of holds at len) len
transfer pid event holds (act.Starts file block block_len) =
    Starts pid event (read_as_image file).load (length file) (place_of holds block block_len) block_len
transfer pid event holds (act.Forks child) = Forks pid child holds.window event
transfer pid event holds (act.Founds child) = Founds pid child holds.window event
transfer pid event holds act.Shares = Shares pid event
transfer pid event holds act.Leaves = Leaves pid
transfer pid event holds (act.Delivers signal handler cut) = Delivers pid cut
transfer pid event holds act.Exits = Exits pid
transfer pid event holds (act.Faults status) = Faults pid
transfer pid event holds (act.Dies signal cut) = Dies pid

-- what an instruction moves
abbrev pub instr_transfer : ℕ → Cpu → Holds → Instr → Transfer
instr_transfer pid cpu holds instr = Runs pid instr (option_and_then (place_at holds) (accessed instr cpu))

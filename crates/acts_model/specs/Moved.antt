-- What happens to bytes at a step: inside the group of its process, and between it and the kernel.
use Rattle.std.specs.Prelude.{ℕ, ◌+◌, ◌-◌, ◌==◌, nat_le, nat_lt, ◌&&◌, ◌||◌, Bool, true, false, if◌then◌else◌, Option, Some, None}
use Rattle.arn_base.specs.declared.machine.Cpu.{Cpu}
use Rattle.arn_base.specs.declared.records.Record.{Record}
use Rattle.arn_base.specs.declared.records.Record.TheVariants as entry
use Rattle.acts_model.specs.Transfers.{Transfer, Runs}

-- a byte that the kernel holds
pub data KernelByte : Type 0 where
  -- a typed byte, or a byte of a pipe, by how many came before it
  ConsoleByte : (position : ℕ) → KernelByte
  PipeByte : (pipe position : ℕ) → KernelByte
  FileByte : (file at : ℕ) → KernelByte
  -- the status of a process for which its parent may wait
  StatusByte : (pid : ℕ) → KernelByte

-- so many bytes that follow each other
pub record Range : Type 0 where
  pub first : KernelByte
  pub len : ℕ

-- byte k from this one on
abbrev pub behind : KernelByte → ℕ → KernelByte
behind (ConsoleByte position) k = ConsoleByte (position + k)
behind (PipeByte pipe position) k = PipeByte pipe (position + k)
behind (FileByte file at) k = FileByte file (at + k)
behind (StatusByte pid) k = StatusByte pid

-- byte k of a range
abbrev pub byte_of : Range → ℕ → Option KernelByte
byte_of range k = if nat_lt k range.len then Some (behind range.first k) else None

-- which of n numbers from a on the number b is
abbrev pub within : ℕ → ℕ → ℕ → Option ℕ
within a n b = if nat_le a b && nat_lt b (a + n) then Some (b - a) else None

abbrev pub within_if : Bool → ℕ → ℕ → ℕ → Option ℕ
within_if test a n b = if test then within a n b else None

-- which of so many bytes from the first on a byte is
abbrev pub place_from : KernelByte → ℕ → KernelByte → Option ℕ
place_from (ConsoleByte position) len (ConsoleByte p) = within position len p
place_from (PipeByte pipe position) len (PipeByte q p) = within_if (pipe == q) position len p
place_from (FileByte file at) len (FileByte f a) = within_if (file == f) at len a
place_from (StatusByte pid) len (StatusByte p) = within_if (pid == p) 0 len 0
place_from first len byte = None

abbrev pub place_in : Range → KernelByte → Option ℕ
place_in range byte = place_from range.first range.len byte

-- an event's number, and its record
pub record Event : Type 0 where
  pub number : ℕ
  pub entry : Record

-- all that a group alone knows of a step: who acts, with which registers before it, what it moves, and the event that it is
pub record Inside : Type 0 where
  pub actor : Option ℕ
  pub before : Cpu
  pub transfer : Transfer
  pub event : Option Event

-- where the bytes come from that a step receives: from outside, from nowhere, since there are none, or from bytes that the kernel holds
pub data Incoming : Type 0 where
  Outside : Incoming
  Nothing : Incoming
  From : Range → Incoming

-- a step, with the kernel's bytes that it receives, and those that the bytes of its event become
pub record Moved : Type 0 where
  pub inside : Inside
  pub incoming : Incoming
  pub outgoing : Option Range

-- a plain instruction
abbrev pub is_plain : Transfer → Bool
is_plain (Runs pid instr place) = true
is_plain transfer = false

-- a call, or an end by fault
abbrev pub is_call_or_end : Record → Bool
is_call_or_end (entry.Call pid number result more) = true
is_call_or_end (entry.End pid status) = true
is_call_or_end other = false

abbrev pub is_last : Option Event → Bool
is_last None = false
is_last (Some event) = is_call_or_end event.entry

-- the step is an instruction of its process
abbrev pub is_instruction : Inside → Bool
is_instruction inside = is_plain inside.transfer || is_last inside.event

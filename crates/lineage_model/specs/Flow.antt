-- What each step does to sets: for a byte after the step, the list of the bytes that it takes.
use Rattle.std.specs.Prelude.{ℕ, zero, suc, ◌+◌, ◌-◌, ◌==◌, ◌&&◌, nat_lt, Bool, if◌then◌else◌, List, [], ◌∷◌, map, flat_map, Option, Some, None, option_map, unwrap_or}
use Rattle.rv64_isa.specs.declared.instruction.Instr.{Instr}
use Rattle.rv64_model.specs.Carries.{Table, Operand, Left, Right, Loaded, Address}
use Rattle.rv64_model.specs.Operands.{rd_of, rs1_of, rs2_of, stored_len}
use Rattle.parts_model.specs.Image.{header_len}
use Rattle.acts_model.specs.Moved.{within}
use Rattle.acts_model.specs.Transfers.{Place, Transfer, Arrives, Starts, Runs, Returns, Receives, Gives, Forks, Founds, Begins, Shares, Delivers, Leaves, Exits, Faults, Dies}
use Rattle.acts_model.specs.Views.{block_at}

-- a byte that a process holds: byte i, 0 to 7, of register r, 1 to 31, or of what its slot keeps of it; or a byte of a memory
pub data Location : Type 0 where
  Register : (pid r i : ℕ) → Location
  Slot : (pid r i : ℕ) → Location
  Memory : (made at : ℕ) → Location

-- a byte of an event: byte k; or, where a fork starts a group, a byte of a register, of the slot or of the window with which the child begins
pub data At : Type 0 where
  Byte : (k : ℕ) → At
  StartRegister : (r i : ℕ) → At
  StartSlot : (r i : ℕ) → At
  StartMemory : (at : ℕ) → At

-- what a byte takes: what a location had before the step, or a byte that the step receives. A received byte is named and not resolved, so
-- that this is one text for the whole machine and for a group alone
pub data Dependence : Type 0 where
  Prior : Location → Dependence
  Received : At → Dependence

-- a byte of a register. x0 holds none
abbrev pub register_bytes : ℕ → ℕ → ℕ → List Location
register_bytes pid zero i = []
register_bytes pid (suc r) i = Register pid (suc r) i ∷ []

-- byte k from a place on
abbrev pub byte_at : Place → ℕ → Location
byte_at place k = Memory place.made (place.at + k)

abbrev pub bytes_at : Option Place → ℕ → List Location
bytes_at None k = []
bytes_at (Some place) k = byte_at place k ∷ []

-- where an operand's byte lies
abbrev pub operand_bytes : ℕ → Instr → Option Place → Operand → List Location
operand_bytes pid instr place (Left i) = register_bytes pid (rs1_of instr) i
operand_bytes pid instr place (Right i) = register_bytes pid (rs2_of instr) i
operand_bytes pid instr place (Loaded k) = bytes_at place k
operand_bytes pid instr place (Address i) = register_bytes pid (rs1_of instr) i

-- what byte i of an instruction's result takes
abbrev pub result_bytes : Table → ℕ → Instr → Option Place → ℕ → List Dependence
result_bytes table pid instr place i = map Prior (flat_map (operand_bytes pid instr place) (table instr i))

-- this, where the test holds
abbrev pub when : {A : Type 0} → Bool → A → Option A
when test x = if test then Some x else None

-- which byte a location is of n bytes from a place on
abbrev pub offset : Option Place → ℕ → ℕ → ℕ → Option ℕ
offset None n made at = None
offset (Some place) n made at = if place.made == made then within place.at n at else None

-- what an instruction writes takes. x0 is never written
abbrev pub ran : Table → ℕ → Instr → Option Place → Location → Option (List Dependence)
ran table pid instr place (Register p zero i) = None
ran table pid instr place (Register p (suc r) i) = when ((p == pid) && (suc r == rd_of instr)) (result_bytes table pid instr place i)
ran table pid instr place (Slot p r i) = None
ran table pid instr place (Memory made at) = option_map (result_bytes table pid instr place) (offset place (stored_len instr) made at)

-- x10 holds a call's result, or a signal's number, which takes nothing
abbrev pub result_only : ℕ → Location → Option (List Dependence)
result_only pid (Register p r i) = when ((p == pid) && (r == 10)) []
result_only pid other = None

-- byte k of what the step receives
abbrev pub received_byte : ℕ → List Dependence
received_byte k = Received (Byte k) ∷ []

-- the bytes of an argument block come from the old memory
abbrev pub block_byte : Option Place → ℕ → List Dependence
block_byte block k = map Prior (bytes_at block k)

-- what an address of a memory takes in which an image was started: the block's bytes, over those of the body, over zeros
abbrev pub body_byte : ℕ → ℕ → ℕ → List Dependence
body_byte load len at = unwrap_or (option_map (λ k. received_byte (header_len + k)) (within load (len - header_len) at)) []

abbrev pub started_byte : ℕ → ℕ → Option Place → ℕ → ℕ → List Dependence
started_byte load len block block_len at =
    unwrap_or (option_map (block_byte block) (within (block_at block_len) block_len at)) (body_byte load len at)

-- what a process has that starts
abbrev pub started : ℕ → ℕ → ℕ → ℕ → Option Place → ℕ → Location → Option (List Dependence)
started pid made load len block block_len (Register p r i) = when (p == pid) []
started pid made load len block block_len (Slot p r i) = when (p == pid) []
started pid made load len block block_len (Memory m at) = when (m == made) (started_byte load len block block_len at)

-- a child's register: x10 holds the fork's result
abbrev pub unless_result : ℕ → List Dependence → List Dependence
unless_result r dependences = if r == 10 then [] else dependences

-- what a child has that joins its parent's group: copies
abbrev pub copied : ℕ → ℕ → ℕ → ℕ → Location → Option (List Dependence)
copied pid child from into (Register p r i) = when (p == child) (unless_result r (Prior (Register pid r i) ∷ []))
copied pid child from into (Slot p r i) = when (p == child) (Prior (Slot pid r i) ∷ [])
copied pid child from into (Memory made at) = when (made == into) (Prior (Memory from at) ∷ [])

-- what a child has that starts a group: it receives what it begins with
abbrev pub begun : ℕ → ℕ → Location → Option (List Dependence)
begun child into (Register p r i) = when (p == child) (unless_result r (Received (StartRegister r i) ∷ []))
begun child into (Slot p r i) = when (p == child) (Received (StartSlot r i) ∷ [])
begun child into (Memory made at) = when (made == into) (Received (StartMemory at) ∷ [])

-- the first that is written, or else the other
abbrev pub or_else : Option (List Dependence) → Option (List Dependence) → Option (List Dependence)
or_else None other = other
or_else (Some dependences) other = Some dependences

-- what a location takes that the step writes
abbrev pub received : Option Place → ℕ → Location → Option (List Dependence)
received place len (Memory made at) = option_map received_byte (offset place len made at)
received place len other = None

-- a fresh segment
abbrev pub cleared : ℕ → Location → Option (List Dependence)
cleared made (Memory m at) = when (m == made) []
cleared made other = None

-- the slot keeps the registers, of which x10 is the result of a call that was cut off
abbrev pub saved : ℕ → Bool → ℕ → ℕ → List Dependence
saved pid cut r i = if cut && (r == 10) then [] else Prior (Register pid r i) ∷ []

abbrev pub delivered : ℕ → Bool → Location → Option (List Dependence)
delivered pid cut (Slot p r i) = when (p == pid) (saved pid cut r i)
delivered pid cut other = None

-- and gives them back
abbrev pub left : ℕ → Location → Option (List Dependence)
left pid (Register p r i) = when (p == pid) (Prior (Slot pid r i) ∷ [])
left pid (Slot p r i) = when (p == pid) []
left pid (Memory made at) = None

abbrev pub written : Table → Transfer → Location → Option (List Dependence)
written table (Arrives len) location = None
written table (Starts pid made load len block block_len) location = started pid made load len block block_len location
written table (Runs pid instr place) location = ran table pid instr place location
written table (Returns pid) location = result_only pid location
written table (Receives pid place len) location = or_else (result_only pid location) (received place len location)
written table (Gives pid place len) location = result_only pid location
written table (Forks pid child from into) location = or_else (result_only pid location) (copied pid child from into location)
written table (Founds pid child from into) location = or_else (result_only pid location) (begun child into location)
written table (Begins pid made) location = begun pid made location
written table (Shares pid made) location = or_else (result_only pid location) (cleared made location)
written table (Delivers pid cut) location = or_else (result_only pid location) (delivered pid cut location)
written table (Leaves pid) location = left pid location
written table (Exits pid) location = None
written table (Faults pid) location = None
written table (Dies pid) location = None

-- what a location takes: one that isn't written keeps what it has
abbrev pub flow : Table → Transfer → Location → List Dependence
flow table transfer location = unwrap_or (written table transfer location) (Prior location ∷ [])

-- these, where k is below n
abbrev pub if_below : ℕ → ℕ → List Dependence → List Dependence
if_below k n dependences = if nat_lt k n then dependences else []

-- what byte k of an event takes
abbrev pub shown_byte : Transfer → ℕ → List Dependence
shown_byte (Arrives len) k = if_below k len (received_byte k)
shown_byte (Starts pid made load len block block_len) k = if_below k len (received_byte k)
shown_byte (Receives pid place len) k = if_below k len (received_byte k)
shown_byte (Gives pid place len) k = if_below k len (map Prior (bytes_at place k))
shown_byte (Exits pid) k = if_below k 1 (Prior (Register pid 10 0) ∷ [])
shown_byte other k = []

-- what a byte takes with which a child begins that starts a group
abbrev pub shown_register : Transfer → ℕ → ℕ → List Dependence
shown_register (Founds pid child from into) r i = unless_result r (Prior (Register pid r i) ∷ [])
shown_register other r i = []

abbrev pub shown_slot : Transfer → ℕ → ℕ → List Dependence
shown_slot (Founds pid child from into) r i = Prior (Slot pid r i) ∷ []
shown_slot other r i = []

abbrev pub shown_memory : Transfer → ℕ → List Dependence
shown_memory (Founds pid child from into) at = Prior (Memory from at) ∷ []
shown_memory other at = []

-- what a byte of the step's event takes
abbrev pub shown : Transfer → At → List Dependence
shown transfer (Byte k) = shown_byte transfer k
shown transfer (StartRegister r i) = shown_register transfer r i
shown transfer (StartSlot r i) = shown_slot transfer r i
shown transfer (StartMemory at) = shown_memory transfer at

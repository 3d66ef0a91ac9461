-- What events make of the members in a table, one at a time.
use Rattle.std.specs.Prelude.{◌≡◌, ◌≢◌, ◌<◌, ◌≤◌, ℕ, ◌==◌, if◌then◌else◌, List, [], length, slice_index, slice_index_or, slice_set, Option, Some, None, IfSome, IsSomeAnd}
use Rattle.parts_model.specs.declared.limits.TheConstants.{SEGMENT_LEN}
use Rattle.parts_model.specs.Numbered.{nth}
use Rattle.taint_events.specs.Beginning.{AreItemsFrom, AreItemsOfRow, BeginsRegisters}
use Rattle.taint_members.specs.Access.{Memories, Writes, window_numbers}
use Rattle.taint_members.specs.Rows.{ClearsResult}
use Rattle.taint_members.specs.declared.member.MemberSets.{MemberSets}
use Rattle.taint_members.specs.declared.member.NewMember.{NewMember}
use Rattle.taint_members.specs.declared.member.Held.{Held}
use Rattle.taint_state.specs.Shown.{register_bytes}
use Rattle.taint_group.specs.Tables.{HasKeyBy, HaveOneKey, held_of}
use Rattle.taint_group.specs.declared.memories.MemoryKind.{MemoryKind}
use Rattle.taint_group.specs.declared.memories.MemoryKind.TheVariants.{Window}
use Rattle.taint_spans.specs.Numbered.{Numbered}

-- a member begins at a number
pub record Places (pid : ℕ) (m : MemberSets) (old new : List (Option MemberSets)) : Type 0 where
  pub one : nth new pid ≡ Some m
  pub others : (p : ℕ) → p ≢ pid → nth new p ≡ nth old p

-- each byte of a member that begins without a parent is an item by itself
pub record BeginsAs (sets : Numbered) (event : ℕ) (m : NewMember) : Type 0 where
  pub segment : m.segment ≡ None
  pub registers : BeginsRegisters sets event m.registers
  pub slot : AreItemsOfRow sets event register_bytes m.slot
  pub window : AreItemsFrom sets event m.window

-- what is written of a member for bytes that it receives, and of all that hold its memories
pub record Receives (at : ℕ) (numbers : List ℕ) (old new : MemberSets) (before after : Memories) : Type 0 where
  pub memory : Writes at numbers old before after
  pub result : ClearsResult old.registers new.registers
  pub others : new ≡ record old { registers = new.registers }

-- what bytes that are received make of a member that may be there
abbrev pub ReceivesEntry : ℕ → List ℕ → Option MemberSets → Option MemberSets → Memories → Memories → Type 0
ReceivesEntry at numbers before after memories written =
    IfSome before (λ (old : MemberSets). (new : MemberSets) × (after ≡ Some new) × Receives at numbers old new memories written)

-- and of the members
pub record ReceivesOne (pid at : ℕ) (numbers : List ℕ) (before after : List (Option MemberSets)) (memories written : Memories) (old : MemberSets) : Type 0 where
  pub new : MemberSets
  pub receives : Receives at numbers old new memories written
  pub members : after ≡ slice_set before pid (Some new)

abbrev pub ReceivesIn : ℕ → ℕ → List ℕ → List (Option MemberSets) → List (Option MemberSets) → Memories → Memories → Type 0
ReceivesIn pid at numbers before after memories written = IfSome (nth before pid) (ReceivesOne pid at numbers before after memories written)

-- the child of a member has what its parent has, but for the result
pub record IsChildOf (memories : Memories) (old : MemberSets) (kid : NewMember) : Type 0 where
  pub result : ClearsResult old.registers kid.registers
  pub slot : kid.slot ≡ old.slot
  pub window : kid.window ≡ window_numbers old memories
  pub segment : kid.segment ≡ old.segment

-- a member that may be there has a child
abbrev pub HasChild : Memories → Option MemberSets → Option NewMember → Type 0
HasChild memories before child = IfSome before (λ (old : MemberSets). IsSomeAnd child (IsChildOf memories old))

-- of memories that members hold, all have this key exactly where they are of this kind, and this event made them
abbrev pub IsKeyBy : MemoryKind → ℕ → ℕ → List (Option MemberSets) → Type 0
IsKeyBy kind made key members = (other : MemoryKind) (p : ℕ) → IfSome (nth members p) (λ (m : MemberSets). HasKeyBy kind made key other (held_of other m))

-- the key of the memory that an event made, if it is held
abbrev pub key_made : ℕ → Option Held → Option ℕ
key_made made None = None
key_made made (Some held) = if held.made == made then Some held.key else None

-- by a member that may be there
abbrev pub held_key : MemoryKind → ℕ → Option MemberSets → Option ℕ
held_key kind made None = None
held_key kind made (Some m) = key_made made (held_of kind m)

-- memories that members hold have keys below so many, and are one exactly where they have one key
pub record AreHeldOnce (count : ℕ) (members : List (Option MemberSets)) : Type 0 where
  pub below : (kind : MemoryKind) (p : ℕ) → IfSome (nth members p) (λ (m : MemberSets). IfSome (held_of kind m) (λ (held : Held). held.key < count))
  pub once : (kind other : MemoryKind) (p q : ℕ) → IfSome (nth members p) (λ (m : MemberSets). IfSome (nth members q) (λ (n : MemberSets). HaveOneKey kind other (held_of kind m) (held_of other n)))

-- a member that may be there doesn't hold the memory of this key
abbrev pub HasNoKey : ℕ → Option MemberSets → Type 0
HasNoKey key entry = (kind : MemoryKind) → IfSome entry (λ (m : MemberSets). IfSome (held_of kind m) (λ (held : Held). held.key ≢ key))

-- no member does
abbrev pub IsFree : ℕ → List (Option MemberSets) → Type 0
IsFree key members = (p : ℕ) → HasNoKey key (nth members p)

-- no memory is lost that a member holds, and all others keep nothing
pub record Releases (members : List (Option MemberSets)) (old new : Memories) : Type 0 where
  pub count : length new ≡ length old
  pub same : (key : ℕ) → (IsFree key members → ⊥) → slice_index_or new key [] ≡ slice_index_or old key []
  pub gone : (key : ℕ) → IsFree key members → slice_index_or new key [] ≡ []

-- a segment none of whose bytes has a set
pub record IsFreshSegment (numbers : List ℕ) : Type 0 where
  pub whole : length numbers ≡ SEGMENT_LEN
  pub zeros : (k : ℕ) → slice_index numbers k ≡ 0

-- a memory has a key, and all others are as before
pub record PutsMemory (key : ℕ) (numbers : List ℕ) (old new : Memories) : Type 0 where
  pub there : key < length new
  pub grown : length old ≤ length new
  pub one : slice_index_or new key [] ≡ numbers
  pub others : (k : ℕ) → k ≢ key → slice_index_or new k [] ≡ slice_index_or old k []

-- a member that has its place in the tables: its window has a key
abbrev pub seated : NewMember → ℕ → ℕ → MemberSets
seated m event key = record { registers = m.registers; slot = m.slot; window = record { made = event; key = key }; segment = m.segment }

-- a member begins at a number, with a window that an event makes
pub record Seats (pid event : ℕ) (m : NewMember) (before after : List (Option MemberSets)) (old new : Memories) : Type 0 where
  pub key : ℕ
  pub own : IsKeyBy Window event key before
  pub put : PutsMemory key m.window old new
  pub placed : Places pid (seated m event key) before after

-- one that may begin does
abbrev pub MaySeat : ℕ → ℕ → Option NewMember → List (Option MemberSets) → List (Option MemberSets) → Memories → Memories → Type 0
MaySeat pid event m before after old new = IfSome m (λ (m : NewMember). Seats pid event m before after old new)

-- a member gets a fresh segment
pub record SharesAs (held : Held) (old new : MemberSets) : Type 0 where
  pub result : ClearsResult old.registers new.registers
  pub others : new ≡ record old { registers = new.registers; segment = Some held }

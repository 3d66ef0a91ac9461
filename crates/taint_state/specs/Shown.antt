-- What is shown of a group that is followed: the items that each byte has, as members of sets.
use Rattle.std.specs.Prelude.{◌≡◌, ℕ, ◌+◌, ◌-◌, ◌*◌, ◌<◌, Bool, IsTrue, List, map, Option, Some, IfSome}
use Rattle.rv64_model.specs.declared.linkage.Linkage.{Linkage}
use Rattle.set_store.specs.declared.item.Item.{Item}
use Rattle.set_store.specs.Sets.{HaveSame}
use Rattle.acts_model.specs.Transfers.{Holds, is_private, is_shared}
use Rattle.lineage_model.specs.Flow.{At, Byte, StartRegister, StartSlot, StartMemory, Register, Slot, Memory}
use Rattle.lineage_model.specs.Tracking.{EventByte, Tracked}

-- a byte of a register, by the register's number, 1 to 31, and the byte's, 0 to 7
abbrev pub byte_of_register : ℕ → ℕ → ℕ
byte_of_register r i = 8 * (r - 1) + i

-- all bytes of 31 registers
abbrev pub register_bytes : ℕ
register_bytes = 248

-- the number of a byte of an event: those with which a child begins are its registers, its slot, and its window by address
abbrev pub place_of : At → ℕ
place_of (Byte k) = k
place_of (StartRegister r i) = byte_of_register r i
place_of (StartSlot r i) = register_bytes + byte_of_register r i
place_of (StartMemory at) = at

abbrev pub item_of : EventByte → Item
item_of byte = record { event = byte.event; at = place_of byte.at }

-- the members of a set are exactly these bytes of events
abbrev pub AreItems : List Item → List EventByte → Type 0
AreItems items bytes = HaveSame items (map item_of bytes)

-- a live member: the memories that it holds, and the items of each byte: of registers and slot by register and byte, of its window and of
-- its segment by address
pub record Member : Type 0 where
  pub holds : Holds
  pub registers : ℕ → ℕ → List Item
  pub slot : ℕ → ℕ → List Item
  pub window : ℕ → List Item
  pub segment : ℕ → List Item

-- an event of a member: how many bytes it has, whether it is a fork that started a group, and the items of each of its bytes
pub record Heard : Type 0 where
  pub len : ℕ
  pub founds : Bool
  pub points : At → List Item

-- a group so far
pub record Tracking : Type 0 where
  pub linkage : Linkage
  pub members : ℕ → Option Member
  pub heard : ℕ → Option Heard

-- a register of a process, but x0, and a byte of it
pub record IsRegisterByte (r i : ℕ) : Type 0 where
  pub above : 0 < r
  pub below : r < 32
  pub byte : i < 8

-- the event has this byte
abbrev pub IsPoint : Heard → At → Type 0
IsPoint heard (Byte k) = k < heard.len
IsPoint heard (StartRegister r i) = IsTrue heard.founds × IsRegisterByte r i
IsPoint heard (StartSlot r i) = IsTrue heard.founds × IsRegisterByte r i
IsPoint heard (StartMemory at) = IsTrue heard.founds × IsTrue (is_private at)

-- each byte that a member holds has the items that it has in a tracking by lists
pub record ShowsMember (pid : ℕ) (t : Tracked EventByte) (m : Member) : Type 0 where
  pub registers : (r i : ℕ) → IsRegisterByte r i → AreItems (m.registers r i) (t.locations (Register pid r i))
  pub slot : (r i : ℕ) → IsRegisterByte r i → AreItems (m.slot r i) (t.locations (Slot pid r i))
  pub window : (at : ℕ) → IsTrue (is_private at) → AreItems (m.window at) (t.locations (Memory m.holds.window at))
  pub segment : (made at : ℕ) → m.holds.segment ≡ Some made → IsTrue (is_shared at) → AreItems (m.segment at) (t.locations (Memory made at))

-- so has each byte of an event
abbrev pub ShowsHeard : ℕ → Tracked EventByte → Heard → Type 0
ShowsHeard event t heard = (at : At) → IsPoint heard at → AreItems (heard.points at) (t.points event at)

-- so have all members and events
pub record Shows (x : Tracking) (t : Tracked EventByte) : Type 0 where
  pub members : (pid : ℕ) → IfSome (x.members pid) (ShowsMember pid t)
  pub heard : (event : ℕ) → IfSome (x.heard event) (ShowsHeard event t)

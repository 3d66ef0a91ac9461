-- Whole tracking is what local tracking of groups joins to, at every moment of a run, under every table of operands.
use Rattle.std.specs.Prelude.{◌≡◌, ℕ, ◌<◌, List, [], map, flat_map, length, Option, Some, None}
use Rattle.rv64_model.specs.Carries.{Table}
use Rattle.parts_model.specs.declared.tagged.TaggedByte.{TaggedByte}
use Rattle.acts_model.specs.Bodies.{Body, body_at, IsHolder}
use Rattle.acts_model.specs.Moved.{KernelByte}
use Rattle.arn_model.specs.Run.{Input, machine_after, run, within, state_at, events_of}
use Rattle.arn_model.specs.Tells.{HasNumbers, kernel_byte}
use Rattle.history_model.specs.Events.{event_at, how_many}
use Rattle.history_model.specs.Groups.{group_of, event_group}
use Rattle.lineage_model.specs.Flow.{Location, Register, Slot, Memory, At, Byte}
use Rattle.lineage_model.specs.Joined.{from_item, reached}
use Rattle.lineage_model.specs.Tracking.{EventByte, Tracked, alone}
use Rattle.lineage_model.specs.Whole.{Whole, whole}
use Rattle.log_model.specs.Records.{records}
use Rattle.replay_laws.specs.Heard.{heard_at}

-- the tracking of every step up to a moment
abbrev pub whole_at : Table → List Input → ℕ → Whole
whole_at table inputs moment = whole table (map (λ s. s.moved) (within moment (run inputs)))

-- the tracking of a group's part alone
abbrev pub local_at : Table → List Input → ℕ → ℕ → Tracked EventByte
local_at table inputs moment g = alone table (heard_at inputs g moment)

-- the items that a byte of an event has in the group that made it
abbrev pub items_in : Table → List Input → ℕ → ℕ → At → Option ℕ → List EventByte
items_in table inputs moment event at None = []
items_in table inputs moment event at (Some g) = (local_at table inputs moment g).points event at

abbrev pub items_at : Table → List Input → ℕ → ℕ → At → List EventByte
items_at table inputs moment event at = items_in table inputs moment event at (event_group (records inputs) event)

-- what reaches a byte of an event by the groups' items and stored origins
abbrev pub joined_point : Table → List Input → ℕ → ℕ → At → List EventByte
joined_point table inputs moment event at =
    reached (event_at (records inputs)) (items_at table inputs moment) (how_many (records inputs)) event at

-- and what reaches a location of a group
abbrev pub joined_location : Table → List Input → ℕ → ℕ → Location → List EventByte
joined_location table inputs moment g location =
    flat_map (from_item (event_at (records inputs)) (joined_point table inputs moment)) ((local_at table inputs moment g).locations location)

-- the location is one of a live process of a group
pub data IsOf (inputs : List Input) (moment g : ℕ) : Location → Type 0 where
  OfRegister : (pid r i : ℕ) (x : Body) → body_at (state_at inputs moment).bodies pid ≡ Some x → group_of (records inputs) pid ≡ Some g
      → IsOf inputs moment g (Register pid r i)
  OfSlot : (pid r i : ℕ) (x : Body) → body_at (state_at inputs moment).bodies pid ≡ Some x → group_of (records inputs) pid ≡ Some g
      → IsOf inputs moment g (Slot pid r i)
  OfMemory : (pid made at : ℕ) (x : Body) → body_at (state_at inputs moment).bodies pid ≡ Some x → group_of (records inputs) pid ≡ Some g
      → IsHolder x made → IsOf inputs moment g (Memory made at)

-- at a moment all bytes have what the groups' answers join to: those of live processes, of events, and of the kernel
pub record IsJoined (table : Table) (inputs : List Input) (moment : ℕ) : Type 0 where
  pub locations : (g : ℕ) (location : Location) → IsOf inputs moment g location
      → (whole_at table inputs moment).tracked.locations location ≡ joined_location table inputs moment g location
  pub points : (event : ℕ) (at : At) → event < length (events_of (within moment (run inputs)))
      → (whole_at table inputs moment).tracked.points event at ≡ joined_point table inputs moment event at
  pub kernel : (byte : KernelByte) (held : TaggedByte) → kernel_byte (state_at inputs moment).kernel byte ≡ Some held
      → (whole_at table inputs moment).kernel byte ≡ joined_point table inputs moment held.origin.event (Byte held.origin.at)

-- at every moment of every run
abbrev pub LineageIsJoined : Type 0
LineageIsJoined = (table : Table) (inputs : List Input) (moment : ℕ) → HasNumbers (machine_after inputs).kernel → IsJoined table inputs moment

-- Which answers of groups can be joined: each item is a byte that its event has, and comes before what it reaches.
use Rattle.std.specs.Prelude.{ℕ, ◌<◌, ◌≤◌, IsTrue, List, All, Option, Some, None, IsSome}
use Rattle.arn_base.specs.declared.records.Record.{Record}
use Rattle.acts_model.specs.Records.{event_len}
use Rattle.acts_model.specs.Transfers.{is_private}
use Rattle.history_model.specs.Events.{event_at}
use Rattle.history_model.specs.Exchanges.{founded}
use Rattle.lineage_model.specs.Flow.{At, Byte, StartRegister, StartSlot, StartMemory}
use Rattle.lineage_model.specs.Tracking.{EventByte}
use Rattle.taint_state.specs.Shown.{IsRegisterByte}

-- an event has this byte: one of its own, or, where it is a fork that started a group, one with which the child began
abbrev pub HasByte : Record → At → Type 0
HasByte e (Byte k) = k < event_len e
HasByte e (StartRegister r i) = IsSome (founded e) × IsRegisterByte r i
HasByte e (StartSlot r i) = IsSome (founded e) × IsRegisterByte r i
HasByte e (StartMemory at) = IsSome (founded e) × IsTrue (is_private at)

-- there is the event, and it has the byte
abbrev pub IsThere : Option Record → At → Type 0
IsThere None at = ⊥
IsThere (Some e) at = HasByte e at

-- a byte of event n comes before what event m shows: a fork is an earlier event, and an event may show what it receives itself
abbrev pub Precedes : ℕ → At → ℕ → Type 0
Precedes n (Byte k) m = n ≤ m
Precedes n (StartRegister r i) m = n < m
Precedes n (StartSlot r i) m = n < m
Precedes n (StartMemory at) m = n < m

-- an item of a byte of an event
pub record Fits (entries : List Record) (event : ℕ) (item : EventByte) : Type 0 where
  pub there : IsThere (event_at entries item.event) item.at
  pub precedes : Precedes item.event item.at event

-- all items of all bytes of events
abbrev pub AllFit : List Record → (ℕ → At → List EventByte) → Type 0
AllFit entries items = (event : ℕ) (at : At) → All (Fits entries event) (items event at)

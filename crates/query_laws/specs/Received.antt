-- Which bytes of events a group alone names, and that they lead only to connected groups.
use Rattle.std.specs.Prelude.{◌≡◌, ◌⊎◌, ℕ, ◌<◌, true, List, All, Contains, Option, Some, None, IfSome, option_and_then}
use Rattle.arn_base.specs.declared.records.Record.{Record}
use Rattle.rv64_model.specs.Carries.{Table}
use Rattle.acts_model.specs.Records.{event_len, give_of}
use Rattle.history_model.specs.Broken.{first_broken}
use Rattle.history_model.specs.Events.{event_at}
use Rattle.history_model.specs.Exchanges.{founded, received}
use Rattle.history_model.specs.Groups.{event_group}
use Rattle.lineage_join.specs.Fits.{Precedes}
use Rattle.lineage_model.specs.Flow.{At, Byte, StartRegister, StartSlot, StartMemory}
use Rattle.lineage_model.specs.Joined.{is_source}
use Rattle.lineage_model.specs.Tracking.{EventByte}
use Rattle.query_model.specs.Linked.{groups_back}
use Rattle.query_model.specs.Sources.{tracked_at}
use Rattle.window_laws.specs.Blocks.{HasWholeBlocks}

-- the record's event has byte k, which came from outside, or is received with its origin
pub record TakesByte (k : ℕ) (e : Record) : Type 0 where
  pub inside : k < event_len e
  pub received : (is_source e ≡ true) ⊎ (received e ≡ give_of e)

-- there is an event that took it
abbrev pub HasTaken : ℕ → Option Record → Type 0
HasTaken k None = ⊥
HasTaken k (Some e) = TakesByte k e

-- a byte that an event of a group received, or a byte of the fork by which the group began
abbrev pub IsReceivedBy : List Record → ℕ → ℕ → At → Type 0
IsReceivedBy entries g event (Byte k) = (event_group entries event ≡ Some g) × HasTaken k (event_at entries event)
IsReceivedBy entries g event (StartRegister r i) = option_and_then founded (event_at entries event) ≡ Some g
IsReceivedBy entries g event (StartSlot r i) = option_and_then founded (event_at entries event) ≡ Some g
IsReceivedBy entries g event (StartMemory at) = option_and_then founded (event_at entries event) ≡ Some g

-- and comes before what this event shows
pub record IsItem (entries : List Record) (g event : ℕ) (item : EventByte) : Type 0 where
  pub received : IsReceivedBy entries g item.event item.at
  pub precedes : Precedes item.event item.at event

-- Each item of a byte of an event in a group alone is such a byte.
abbrev pub ItemsAreReceived : Type 0
ItemsAreReceived =
    (table : Table) (entries : List Record) (g moment : ℕ) → first_broken entries ≡ None → All HasWholeBlocks entries → (event : ℕ) (at : At)
    → All (IsItem entries g event) ((tracked_at table entries moment g).points event at)

-- the event has no group, or is of one of the connected ones
abbrev pub IsConnected : List Record → List ℕ → ℕ → Type 0
IsConnected entries from event = IfSome (event_group entries event) (Contains (groups_back entries from))

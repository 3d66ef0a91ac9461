-- Which pairs are asked for.
use Rattle.std.specs.Prelude.{◌≡◌, ◌↔◌, ℕ, List, Option, Contains, option_and_then}
use Rattle.arn_base.specs.declared.records.Pair.{Pair}
use Rattle.arn_base.specs.declared.records.Record.{Record}
use Rattle.set_store.specs.declared.item.Item.{Item}
use Rattle.history_model.specs.Events.{event_at}
use Rattle.history_model.specs.Exchanges.{founded}
use Rattle.lineage_model.specs.Joined.{Reaching, from_item}
use Rattle.lineage_model.specs.Tracking.{EventByte}
use Rattle.taint_state.specs.Shown.{item_of}
use Rattle.lineage_join.specs.declared.demand.Demand.{Demand}
use Rattle.lineage_join.specs.declared.demand.Demand.TheVariants as demand
use Rattle.lineage_join.specs.Fits.{IsThere}
use Rattle.lineage_join.specs.Places.{at_of}
use Rattle.lineage_join.specs.Rising.{source_of}
use Rattle.lineage_join.specs.Waits.{from_kind, kind_by}

-- what an item stands for, by its number
abbrev pub from_number : (ℕ → Option Record) → Reaching → Item → List EventByte
from_number event_at reaching item = from_kind event_at reaching item.event item.at (kind_by (option_and_then founded (event_at item.event)))

-- the source bytes that reach what is asked for
abbrev pub asked_sources : (ℕ → Option Record) → Reaching → Demand → List EventByte
asked_sources event_at reaching (demand.Event event place byte) = reaching event (at_of place)
asked_sources event_at reaching (demand.Item item byte) = from_number event_at reaching item

-- for which byte of the target
abbrev pub asked_byte : Demand → ℕ
asked_byte (demand.Event event place byte) = byte
asked_byte (demand.Item item byte) = byte

-- the pair's source byte reaches what the pair's byte of the target takes
abbrev pub IsAsked : (ℕ → Option Record) → Reaching → List Demand → Pair → Type 0
IsAsked event_at reaching demands pair =
    (one : Demand) × Contains demands one × (asked_byte one ≡ pair.byte) × Contains (asked_sources event_at reaching one) (source_of pair)

-- exactly those
abbrev pub AreAsked : (ℕ → Option Record) → Reaching → List Demand → List Pair → Type 0
AreAsked event_at reaching demands pairs = (pair : Pair) → Contains pairs pair ↔ IsAsked event_at reaching demands pair

-- The number of a byte that its event has tells what the byte stands for.
abbrev pub NumbersStand : Type 0
NumbersStand =
    (entries : List Record) (reaching : Reaching) (byte : EventByte) → IsThere (event_at entries byte.event) byte.at
    → from_number (event_at entries) reaching (item_of byte) ≡ from_item (event_at entries) reaching byte

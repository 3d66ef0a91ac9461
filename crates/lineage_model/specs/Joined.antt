-- How the answers of groups alone are joined over stored origins, without a run of the whole machine.
use Rattle.std.specs.Prelude.{ℕ, zero, suc, ◌+◌, ◌-◌, ◌==◌, nat_lt, Bool, true, false, if◌then◌else◌, List, [], ◌∷◌, flat_map, Option, Some, None, option_and_then}
use Rattle.arn_base.specs.declared.records.Extra.{Extra}
use Rattle.arn_base.specs.declared.records.Extra.TheVariants as extra
use Rattle.arn_base.specs.declared.records.Give.{Give}
use Rattle.arn_base.specs.declared.records.Origin.{Origin}
use Rattle.arn_base.specs.declared.records.Record.{Record}
use Rattle.arn_base.specs.declared.records.Record.TheVariants as entry
use Rattle.arn_base.specs.declared.records.Src.{Src}
use Rattle.parts_model.specs.declared.calls.TheConstants.{READ}
use Rattle.acts_model.specs.Records.{event_len, give_of}
use Rattle.lineage_model.specs.Flow.{At, Byte}
use Rattle.lineage_model.specs.Tracking.{EventByte}

-- a read from a device
abbrev pub is_reply : ℕ → Extra → Bool
is_reply number (extra.Reply device bytes) = number == READ
is_reply number more = false

-- the bytes of these events came from outside: each is its own source
abbrev pub is_source : Record → Bool
is_source (entry.File name bytes) = true
is_source (entry.Typed bytes) = true
is_source (entry.Call pid number result more) = is_reply number more
is_source other = false

-- the event byte of which byte k of received bytes is a copy
abbrev pub origin_at : List Origin → ℕ → Option Src
origin_at [] k = None
origin_at (o ∷ origins) k = if nat_lt k o.len then Some (record { event = o.event; at = o.at + k }) else origin_at origins (k - o.len)

abbrev pub origin_of : Record → ℕ → Option Src
origin_of e k = option_and_then (λ (give : Give). origin_at give.origins k) (give_of e)

-- what reaches a byte of an event: `earlier` gives it for bytes of earlier events
abbrev pub Reaching : Type 0
Reaching = ℕ → At → List EventByte

abbrev pub from_origin : Reaching → Option Src → List EventByte
from_origin earlier None = []
from_origin earlier (Some src) = earlier src.event (Byte src.at)

-- what an item stands for: a source byte for itself, another received byte for what reaches the byte that its stored origin names
abbrev pub from_received : Reaching → ℕ → ℕ → Option Record → List EventByte
from_received earlier event k None = []
from_received earlier event k (Some e) =
    if is_source e then record { event = event; at = Byte k } ∷ [] else from_origin earlier (origin_of e k)

-- and a byte with which a group began for what reaches it in the group of the fork
abbrev pub from_item_at : (ℕ → Option Record) → Reaching → ℕ → At → List EventByte
from_item_at event_at earlier event (Byte k) = from_received earlier event k (event_at event)
from_item_at event_at earlier event at = earlier event at

abbrev pub from_item : (ℕ → Option Record) → Reaching → EventByte → List EventByte
from_item event_at earlier item = from_item_at event_at earlier item.event item.at

-- a byte of an event of the outside is its own source. The event has no byte behind its end, and none with which a group begins
abbrev pub source_byte : ℕ → ℕ → At → List EventByte
source_byte event len (Byte k) = if nat_lt k len then record { event = event; at = Byte k } ∷ [] else []
source_byte event len at = []

-- what reaches a byte of an event that has these items in its group, or is of the outside
abbrev pub from_event : (ℕ → Option Record) → Reaching → ℕ → At → List EventByte → Option Record → List EventByte
from_event event_at earlier event at items None = []
from_event event_at earlier event at items (Some e) =
    if is_source e then source_byte event (event_len e) at else flat_map (from_item event_at earlier) items

-- What reaches bytes of the first n events, where `items` gives the items that a byte of an event has in its own group. Origins and forks are
-- earlier events, so that this ends.
abbrev pub reached : (ℕ → Option Record) → (ℕ → At → List EventByte) → ℕ → Reaching
reached event_at items zero event at = []
reached event_at items (suc n) event at = from_event event_at (reached event_at items n) event at (items event at) (event_at event)

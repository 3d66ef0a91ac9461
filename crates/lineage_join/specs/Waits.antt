-- What is still to be followed, and which pairs it leads to.
use Rattle.std.specs.Prelude.{◌≡◌, ◌⊎◌, ◌↔◌, ℕ, ◌+◌, ◌*◌, ◌<◌, ◌≤◌, ◌^◌, max, List, [], ◌∷◌, Contains, Option, Some, None, if◌then◌else◌, option_and_then}
use Rattle.arn_base.specs.declared.records.Pair.{Pair}
use Rattle.arn_base.specs.declared.records.Record.{Record}
use Rattle.arn_base.specs.declared.records.Src.{Src}
use Rattle.acts_model.specs.Records.{event_len}
use Rattle.history_model.specs.Exchanges.{founded}
use Rattle.lineage_model.specs.Flow.{Byte}
use Rattle.lineage_model.specs.Joined.{Reaching, is_source, source_byte, from_origin, origin_of}
use Rattle.lineage_model.specs.Tracking.{EventByte}
use Rattle.set_store.specs.declared.item.Item.{Item}
use Rattle.lineage_join.specs.declared.demand.Demand.{Demand}
use Rattle.lineage_join.specs.declared.demand.Demand.TheVariants as demand
use Rattle.lineage_join.specs.declared.demand.Place.{Place}
use Rattle.lineage_join.specs.declared.demand.Place.TheVariants as place
use Rattle.lineage_join.specs.declared.wait.Kind.{Kind}
use Rattle.lineage_join.specs.declared.wait.Kind.TheVariants as kind
use Rattle.lineage_join.specs.declared.wait.Wait.{Wait}
use Rattle.lineage_join.specs.Places.{start_at}
use Rattle.lineage_join.specs.Rising.{source_of}

-- what a byte stands for that a process received: a source byte for itself, another for the byte of which it is a copy
abbrev pub from_taken : Reaching → ℕ → ℕ → Option Record → List EventByte
from_taken earlier event k None = []
from_taken earlier event k (Some e) = if is_source e then source_byte event (event_len e) (Byte k) else from_origin earlier (origin_of e k)

abbrev pub from_kind : (ℕ → Option Record) → Reaching → ℕ → ℕ → Kind → List EventByte
from_kind event_at earlier event at kind.Received = from_taken earlier event at (event_at event)
from_kind event_at earlier event at kind.Byte = earlier event (Byte at)
from_kind event_at earlier event at kind.Start = earlier event (start_at at)

-- the source bytes that reach what waits
abbrev pub from_wait : (ℕ → Option Record) → Reaching → Wait → List EventByte
from_wait event_at earlier wait = from_kind event_at earlier wait.event wait.at wait.kind

-- the source bytes that an event of the outside has by itself: none with which a child begins
abbrev pub own_bytes : ℕ → ℕ → ℕ → Kind → List EventByte
own_bytes event len at kind.Received = source_byte event len (Byte at)
own_bytes event len at kind.Byte = source_byte event len (Byte at)
own_bytes event len at kind.Start = []

-- it leads to a pair
abbrev pub LeadsTo : (Wait → List EventByte) → Wait → Pair → Type 0
LeadsTo from wait pair = (wait.byte ≡ pair.byte) × Contains (from wait) (source_of pair)

-- one of some does
abbrev pub Leads : (Wait → List EventByte) → List Wait → Pair → Type 0
Leads from waiting pair = (wait : Wait) × Contains waiting wait × LeadsTo from wait pair

-- an item is a byte with which a child began, where its event is a fork that started a group, and else a received byte
abbrev pub kind_by : Option ℕ → Kind
kind_by None = kind.Received
kind_by (Some child) = kind.Start

abbrev pub wait_of : (ℕ → Option Record) → ℕ → Item → Wait
wait_of event_at byte item =
    record { event = item.event; kind = kind_by (option_and_then founded (event_at item.event)); at = item.at; byte = byte }

-- these members, and one more
abbrev pub HasAlso : {X : Type 0} → List X → X → List X → Type 0
HasAlso {X} old more new = (x : X) → Contains new x ↔ (Contains old x ⊎ (more ≡ x))

-- kinds and numbers fall as one follows
abbrev pub rank : Kind → ℕ
rank kind.Received = 0
rank kind.Byte = 1
rank kind.Start = 2

abbrev pub level : Wait → ℕ
level wait = wait.event * 3 + rank wait.kind

-- where it stands among all
abbrev pub code : Wait → ℕ
code wait = level wait * 2 ^ 96 + wait.at * 2 ^ 32 + wait.byte

-- above all of some
abbrev pub room : List Wait → ℕ
room [] = 0
room (wait ∷ waiting) = max (code wait + 1) (room waiting)

-- its numbers have 64 and 32 bits
pub record IsNumbered (wait : Wait) : Type 0 where
  pub at : wait.at < 2 ^ 64
  pub byte : wait.byte < 2 ^ 32

-- all members but the last, which is behind them
pub record IsTaken (old : List Wait) (wait : Wait) (new : List Wait) : Type 0 where
  pub members : HasAlso new wait old
  pub below : (other : Wait) → Contains new other → code other < code wait

-- where the byte is a copy of another, that waits
abbrev pub origin_waits : ℕ → Option Src → List Wait
origin_waits byte None = []
origin_waits byte (Some src) = record { event = src.event; kind = kind.Byte; at = src.at; byte = byte } ∷ []

-- the pairs of a byte of the target with these source bytes, beside others
abbrev pub HasPairs : List Pair → ℕ → List EventByte → List Pair → Type 0
HasPairs old byte bytes new = (pair : Pair) → Contains new pair ↔ (Contains old pair ⊎ ((byte ≡ pair.byte) × Contains bytes (source_of pair)))

-- a pair is found, or waits to be
abbrev pub Comes : (Wait → List EventByte) → List Wait → List Pair → Pair → Type 0
Comes from waiting found pair = Contains found pair ⊎ Leads from waiting pair

-- what came still comes, and what this led to
pub record IsStepped (from : Wait → List EventByte) (waiting : List Wait) (found : List Pair) (wait : Wait) (then_waiting : List Wait) (then_found : List Pair) : Type 0 where
  pub comes : (pair : Pair) → Comes from then_waiting then_found pair ↔ (Comes from waiting found pair ⊎ LeadsTo from wait pair)
  pub falls : (other : Wait) → Contains then_waiting other → Contains waiting other ⊎ (level other < level wait)

-- it is at most as late as one of these
abbrev pub IsWithin : List Wait → Wait → Type 0
IsWithin waits other = (wait : Wait) × Contains waits wait × (level other ≤ level wait)

-- what came still comes, and what these lead to. What waits besides is no later than these
pub record ComesAlso (from : Wait → List EventByte) (waiting : List Wait) (found : List Pair) (waits : List Wait) (then_waiting : List Wait) (then_found : List Pair) : Type 0 where
  pub comes : (pair : Pair) → Comes from then_waiting then_found pair ↔ (Comes from waiting found pair ⊎ Leads from waits pair)
  pub falls : (other : Wait) → Contains then_waiting other → Contains waiting other ⊎ IsWithin waits other

-- exactly the pairs are found that had come
abbrev pub AreFound : (Wait → List EventByte) → List Wait → List Pair → List Pair → Type 0
AreFound from waiting found new = (pair : Pair) → Contains new pair ↔ Comes from waiting found pair

-- what waits for what is asked for
abbrev pub kind_of : Place → Kind
kind_of (place.Byte k) = kind.Byte
kind_of (place.Start n) = kind.Start

abbrev pub number_of : Place → ℕ
number_of (place.Byte k) = k
number_of (place.Start n) = n

abbrev pub demanded : (ℕ → Option Record) → Demand → Wait
demanded event_at (demand.Event event place byte) = record { event = event; kind = kind_of place; at = number_of place; byte = byte }
demanded event_at (demand.Item item byte) = wait_of event_at byte item

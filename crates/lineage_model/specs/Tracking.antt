-- Sets of items, and what a step does to them. The same fold serves the whole machine and a group alone.
use Rattle.std.specs.Prelude.{ℕ, ◌==◌, if◌then◌else◌, List, [], ◌∷◌, flat_map, Option, Some, None}
use Rattle.rv64_model.specs.Carries.{Table}
use Rattle.acts_model.specs.Moved.{Event, Inside}
use Rattle.acts_model.specs.Transfers.{Transfer}
use Rattle.lineage_model.specs.Flow.{Location, At, Dependence, Prior, Received, flow, shown}

-- a byte of an event of the history
pub record EventByte : Type 0 where
  pub event : ℕ
  pub at : At

-- what each location has, and what each byte of an event had when the event was made. A set is a list, in which order and repeats mean nothing
pub record Tracked (A : Type 0) : Type 0 where
  pub locations : Location → List A
  pub points : ℕ → At → List A

-- nothing has anything
abbrev pub untracked : {A : Type 0} → Tracked A
untracked = record { locations = λ location. []; points = λ event at. [] }

-- what a byte takes by one dependence, where received bytes have the sets `given`
abbrev pub taken : {A : Type 0} → (At → List A) → (Location → List A) → Dependence → List A
taken given locations (Prior location) = locations location
taken given locations (Received at) = given at

-- by several
abbrev pub gather : {A : Type 0} → (At → List A) → (Location → List A) → List Dependence → List A
gather given locations dependences = flat_map (taken given locations) dependences

-- the points after a step that is an event, or is none
abbrev pub points_after : {A : Type 0} → Option Event → (At → List A) → (ℕ → At → List A) → ℕ → At → List A
points_after None shown points e at = points e at
points_after (Some event) shown points e at = if e == event.number then shown at else points e at

-- the sets after a step
abbrev pub after : {A : Type 0} → Table → (At → List A) → Option Event → Transfer → Tracked A → Tracked A
after table given event transfer t =
    record {
      locations = λ location. gather given t.locations (flow table transfer location);
      points = points_after event (λ at. gather given t.locations (shown transfer at)) t.points;
    }

-- In a group alone each byte that an event receives is an item by itself.
abbrev pub items : Option Event → At → List EventByte
items None at = []
items (Some event) at = record { event = event.number; at = at } ∷ []

abbrev pub alone_after : Table → Inside → Tracked EventByte → Tracked EventByte
alone_after table inside t = after table (items inside.event) inside.event inside.transfer t

abbrev pub alone_from : Table → List Inside → Tracked EventByte → Tracked EventByte
alone_from table [] t = t
alone_from table (inside ∷ list) t = alone_from table list (alone_after table inside t)

-- the items that each location has after the steps of a group, and each byte of their events
abbrev pub alone : Table → List Inside → Tracked EventByte
alone table list = alone_from table list untracked

-- The events of a group, as they are kept.
use Rattle.std.specs.Prelude.{◌≡◌, ℕ, ◌<◌, ◌≤◌, List, [], map, length, slice_index_or, Option, None, Some, option_map}
use Rattle.std.specs.Global.{Box}
use Rattle.taint_state.specs.declared.heard.ChildStart.{ChildStart}
use Rattle.taint_state.specs.declared.heard.HeardEvent.{HeardEvent}
use Rattle.taint_state.specs.declared.heard.Moved.{Moved}
use Rattle.taint_state.specs.Kept.{KeptHeard, KeptStart}

-- the bytes with which a child began that started a group
abbrev pub kept_start : ChildStart → KeptStart
kept_start start = record { registers = start.registers; slot = start.slot; window = start.window }

abbrev pub kept_child : Box ChildStart → KeptStart
kept_child child = kept_start child.value

-- the numbers of the bytes of an event, none where it moved nothing
abbrev pub numbers_of : Option (Box Moved) → List ℕ
numbers_of None = []
numbers_of (Some moved) = moved.value.numbers.items

-- what a child began with
abbrev pub start_of : Option (Box Moved) → Option KeptStart
start_of None = None
start_of (Some moved) = option_map kept_child moved.value.start

-- an event moved bytes of these numbers, and a child began with this
pub record HasMoved (numbers : List ℕ) (start : Option KeptStart) (moved : Option (Box Moved)) : Type 0 where
  pub bytes : numbers_of moved ≡ numbers
  pub child : start_of moved ≡ start

-- an event that was heard
abbrev pub kept_heard : HeardEvent → KeptHeard
kept_heard heard = record { event = heard.event; numbers = numbers_of heard.moved; start = start_of heard.moved }

abbrev pub heard_in : List HeardEvent → List KeptHeard
heard_in events = map kept_heard events

-- the event at a place
abbrev pub entry_at : List HeardEvent → ℕ → HeardEvent
entry_at events place = slice_index_or events place (record { event = 0; moved = None })

-- the number of the event at a place
abbrev pub event_at : List HeardEvent → ℕ → ℕ
event_at events place = let heard = slice_index_or events place (record { event = 0; moved = None }) in heard.event

-- their numbers rise
abbrev pub AreInOrder : List HeardEvent → Type 0
AreInOrder events = (i j : ℕ) → i < j → j < length events → event_at events i < event_at events j

-- the event of a number is at a place
pub record IsPlaceOf (events : List HeardEvent) (event place : ℕ) : Type 0 where
  pub there : place < length events
  pub is : event_at events place ≡ event

-- all before a place have smaller numbers, and all from it on have greater ones
pub record IsGapFor (events : List HeardEvent) (event place : ℕ) : Type 0 where
  pub there : place ≤ length events
  pub before : (i : ℕ) → i < place → event_at events i < event
  pub behind : (i : ℕ) → place ≤ i → i < length events → event < event_at events i

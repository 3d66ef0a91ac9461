-- The groups that received copies of bytes of an event, as they are found.
use Rattle.std.specs.Prelude.{◌≡◌, ◌↔◌, ℕ, ◌<◌, true, List, Contains, Some, option_and_then}
use Rattle.arn_base.specs.declared.records.Record.{Record}
use Rattle.history_model.specs.Events.{event_at}
use Rattle.history_model.specs.Exchanges.{received}
use Rattle.history_model.specs.Groups.{event_group}
use Rattle.query_model.specs.Forth.{has_copy}
use Rattle.followed_pairs.specs.declared.asked.Asked.{Asked}

-- the group took a copy of what is asked at an event
pub record Takes (entries : List Record) (asked : Asked) (n g : ℕ) : Type 0 where
  pub group : event_group entries n ≡ Some g
  pub copy : has_copy asked.event asked.from asked.len (option_and_then received (event_at entries n)) ≡ true

-- it did so before event n
abbrev pub TookBefore : List Record → Asked → ℕ → ℕ → Type 0
TookBefore entries asked n g = (m : ℕ) × (m < n) × Takes entries asked m g

-- exactly the groups that did
abbrev pub AreTakers : List Record → Asked → ℕ → List ℕ → Type 0
AreTakers entries asked n groups = (g : ℕ) → Contains groups g ↔ TookBefore entries asked n g

-- What groups that were followed tell of bytes of events.
use Rattle.std.specs.Prelude.{◌≡◌, ◌⊎◌, ℕ, List, [], Contains, IfSome}
use Rattle.rv64_model.specs.Carries.{operands}
use Rattle.history_model.specs.Events.{event_at}
use Rattle.history_model.specs.Groups.{event_group}
use Rattle.lineage_join.specs.Fits.{IsThere}
use Rattle.lineage_model.specs.Flow.{At}
use Rattle.query_model.specs.Sinks.{items_among}
use Rattle.query_model.specs.Sources.{items_at}
use Rattle.followed_groups.specs.Following.{Following, HasFollowed, HasOnly, items_followed}

-- each item is that of the event's own group alone, at a byte that the event has; of groups that were all followed none is left out; and where no
-- others were, they are those of these groups
pub record AreItemsOfGroups (f : Following) : Type 0 where
  pub own : (event : ℕ) (at : At) → (items_followed f event at ≡ []) ⊎ (IsThere (event_at f.entries event) at × (items_followed f event at ≡ items_at (operands f.linkage) f.entries f.until event at))
  pub all : (groups : List ℕ) → HasFollowed f groups → (event : ℕ) (at : At) → IfSome (event_group f.entries event) (Contains groups) → IsThere (event_at f.entries event) at
      → items_followed f event at ≡ items_at (operands f.linkage) f.entries f.until event at
  pub among : (groups : List ℕ) → HasFollowed f groups → HasOnly f groups → (event : ℕ) (at : At) → IsThere (event_at f.entries event) at
      → items_followed f event at ≡ items_among (operands f.linkage) f.entries groups f.until event at

-- so it is whichever were followed
abbrev pub ItemsAreOfGroups : Type 0
ItemsAreOfGroups = (f : Following) → AreItemsOfGroups f

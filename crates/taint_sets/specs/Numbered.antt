-- Sets by number: those that are kept, and of each received byte the set of its item alone.
use Rattle.std.specs.Prelude.{◌≡◌, ◌↔◌, ℕ, Contains, ◌+◌, ◌^◌, ◌<◌, ◌≤◌, nat_lt, if◌then◌else◌, List, [], ◌∷◌, slice_get, Option, IsSome, option_map, unwrap_or}
use Rattle.set_store.specs.declared.item.Item.{Item}
use Rattle.taint_sets.specs.declared.run.Run.{Run}
use Rattle.taint_sets.specs.Runs.{item_among}

-- a set that is kept has a number below this one; from here on numbers are those of received bytes
abbrev pub first_received : ℕ
first_received = 2 ^ 31

-- the sets that are kept, and the received bytes
pub record Numbered : Type 0 where
  pub kept : List (List Item)
  pub runs : List Run

-- an item alone
abbrev pub alone : Item → List Item
alone item = item ∷ []

-- the set of a number, if it stands for one
abbrev pub set_at : Numbered → ℕ → Option (List Item)
set_at sets number = if nat_lt number first_received then slice_get sets.kept number else option_map alone (item_among sets.runs number)

-- a number stands for a set
unfoldable pub IsSet : Numbered → ℕ → Type 0
IsSet sets number = IsSome (set_at sets number)

-- the members of a set, none where a number stands for none
unfoldable pub members_of : Numbered → ℕ → List Item
members_of sets number = unwrap_or (set_at sets number) []

-- each number stands for the same set as before
pub record StandAsBefore (old new : Numbered) : Type 0 where
  pub there : (set : ℕ) → IsSet old set → IsSet new set
  pub same : (set : ℕ) → IsSet old set → members_of new set ≡ members_of old set

-- a number stands for the set of one byte of an event alone
pub record IsItem (sets : Numbered) (event at number : ℕ) : Type 0 where
  pub there : IsSet sets number
  pub members : members_of sets number ≡ record { event = event; at = at } ∷ []

-- so many bytes of an event from one on have the numbers from another one on
pub record AreReceivedFrom (sets : Numbered) (event at count first : ℕ) : Type 0 where
  pub received : first_received ≤ first
  pub fits : first + count ≤ 2 ^ 32
  pub items : (k : ℕ) → k < count → IsItem sets event (at + k) (first + k)

-- a set has the members of so many sets whose numbers follow each other
abbrev pub IsRowOf : Numbered → ℕ → ℕ → List Item → Type 0
IsRowOf sets first count members = (item : Item) → Contains members item ↔ ((k : ℕ) × (k < count) × Contains (members_of sets (first + k)) item)

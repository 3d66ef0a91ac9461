-- Sets that are carried over into other sets.
use Rattle.std.specs.Prelude.{◌≡◌, ◌⊎◌, ℕ, ◌<◌, List, slice_get, Some}
use Rattle.set_store.specs.declared.item.Item.{Item}
use Rattle.set_store.specs.Sets.{IsSet, members_of}

-- the new number of a set stands for the same members
pub record IsCarried (from into : List (List Item)) (set number : ℕ) : Type 0 where
  pub there : IsSet into number
  pub members : members_of into number ≡ members_of from set

-- so does each number above 0 that is noted for a set
abbrev pub AreCarried : List (List Item) → List (List Item) → List ℕ → Type 0
AreCarried from into numbers = (set number : ℕ) → slice_get numbers set ≡ Some number → 0 < number → IsCarried from into set number

-- what is noted was so before, or is this
abbrev pub Notes : ℕ → ℕ → List ℕ → List ℕ → Type 0
Notes set number old new = (s n : ℕ) → slice_get new s ≡ Some n → (slice_get old s ≡ Some n) ⊎ ((s ≡ set) × (n ≡ number))

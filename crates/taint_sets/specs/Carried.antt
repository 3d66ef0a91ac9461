-- Sets that are carried over into fresh ones.
use Rattle.std.specs.Prelude.{◌≡◌, ℕ, ◌<◌}
use Rattle.taint_sets.specs.Numbered.{IsSet, Numbered, StandAsBefore, first_received, members_of}

-- the sets of before, and the fresh ones
pub record Carried : Type 0 where
  pub from : Numbered
  pub into : Numbered

-- A number of before has this one from now on, which stands for the same set. It is no number that another set may get yet.
pub record HasNumber (sets : Carried) (was is : ℕ) : Type 0 where
  pub there : IsSet sets.from was → IsSet sets.into is
  pub same : members_of sets.into is ≡ members_of sets.from was
  pub given : is < first_received → IsSet sets.into is

-- the sets of before are the same, fresh ones stay, and each number that was given still holds
pub record CarriesOn (old new : Carried) : Type 0 where
  pub from : new.from ≡ old.from
  pub stands : StandAsBefore old.into new.into
  pub still : (was is : ℕ) → HasNumber old was is → HasNumber new was is

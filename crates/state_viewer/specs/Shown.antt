-- What a replay shows.
use Rattle.std.specs.Prelude.{◌≡◌}
use Rattle.guest_bodies.specs.Follows.{Shows}
use Rattle.guest_bodies.specs.Shown.{Guests}
use Rattle.history_model.specs.Alone.{Own, Made, Makes}

-- processes see what they see in what was made
pub record ShowsGroup (made : Made) (guests : Guests) : Type 0 where
  pub own : Own
  pub makes : made ≡ Makes own
  pub shows : Shows guests own.bodies

-- What a replay gives.
use Rattle.std.specs.Prelude.{◌≡◌, ◌+◌, ℕ, count_by, flat_map}
use Rattle.guest_bodies.specs.Follows.{Shows}
use Rattle.guest_bodies.specs.Shown.{Guests}
use Rattle.history_model.specs.Alone as alone
use Rattle.history_model.specs.Alone.{Own}
use Rattle.replay_steps.specs.Notices.{Listener, Told, notices}
use Rattle.replay_steps.specs.Standing.{is_counted}

-- What was made, which is seen of the processes. The observer was told all that happened inside, in order, and each instruction was counted.
pub record Replays {A : Type 0} (l : Listener A) (x : A) (n : ℕ) (made : alone.Made) (guests : Guests) (y : A) (m : ℕ) : Type 0 where
  pub own : Own
  pub makes : made ≡ alone.Makes own
  pub shows : Shows guests own.bodies
  pub told : Told l (flat_map notices own.inside) x y
  pub counted : m ≡ n + count_by is_counted own.inside

-- One process among none.
use Rattle.std.proofs.Common.{◌≡◌, [], Option, Some, None, IsSome, option_map, refl}
use Rattle.acts_model.specs.Acts.{Beginning, begun}
use Rattle.acts_model.specs.Bodies.{View}
use Rattle.guest_bodies.specs.Follows.{Follows}
use Rattle.guest_bodies.specs.Shown.{Guests, Shown}

module _ (old new : Guests) (b : Beginning) (none : old ≡ []) (follows : Follows old (begun 1 0 b) new) where
  there : (o : Option Shown) (v : View) → option_map (λ (s : Shown). s.view) o ≡ Some v → IsSome o
  there None v e = cc
  there (Some s) v e = refl

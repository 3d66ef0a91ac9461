-- States that stand for a machine.
use Rattle.std.proofs.Common.{◌≡◌, ℕ, [], refl}
use Rattle.acts_model.specs.Bodies.{body_at, nobody, seen}
use Rattle.arn_model.specs.Kernel.{at_first}
use Rattle.guest_bodies.specs.Shown.{seen_in}
use Rattle.guest_calls.specs.State.{StandsFor, state_first}
use Rattle.guest_machine.specs.Recorded.{IsReal}

first-seen : (p : ℕ) → seen_in [] p ≡ seen nobody p
unfolding body_at
first-seen p = refl

pub first-stands : StandsFor state_first at_first
first-stands = record { seen = first-seen; kernel = refl; events = refl }

pub first-real : IsReal state_first
first-real = record { machine = at_first; stands = first-stands }

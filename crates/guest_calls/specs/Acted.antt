-- What the parts of a call do to the state.
use Rattle.std.specs.Prelude.{◌≡◌, ◌+◌, ℕ}
use Rattle.acts_model.specs.Acts.{Act, done, result_of}
use Rattle.acts_model.specs.Bodies.{View}
use Rattle.arn_model.specs.Doing.{Doing, Request, Does}
use Rattle.arn_model.specs.Kernel.{Kernel, Machine}
use Rattle.arn_model.specs.Step.{call_step}
use Rattle.guest_bodies.specs.Follows.{Follows}
use Rattle.guest_calls.specs.State.{State, StandsFor}
use Rattle.guest_calls.specs.declared.outcomes.Done.{Done}

-- a process has done an act at the next event, and the kernel is this
pub record Acted (pid : ℕ) (act : Act) (k : Kernel) (old new : State) : Type 0 where
  pub follows : Follows old.guests (done pid old.events act) new.guests
  pub kernel : new.kernel ≡ k
  pub events : new.events ≡ old.events + 1

-- a call that asks no device has ended
pub record Carried (request : Request) (result : Done) (m : Machine) (pid : ℕ) (v : View) (new : State) : Type 0 where
  pub doing : Doing
  pub is : request ≡ Does doing
  pub answers : result.result ≡ result_of doing.act
  pub extra : result.extra ≡ doing.extra
  pub stands : StandsFor new (call_step m pid v doing).after

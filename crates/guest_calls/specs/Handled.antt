-- A process that takes signals otherwise.
use Rattle.std.specs.Prelude.{◌≡◌, ℕ, not, [], ◌∷◌}
use Rattle.parts_model.specs.Signals.{can_set, with_handler}
use Rattle.parts_model.specs.declared.refusals.TheConstants.{BAD_ARGUMENT}
use Rattle.arn_model.specs.Doing.{Request, refuse, returns, unless_refused}
use Rattle.arn_model.specs.Kernel.{Handling, Machine, with_handling}
use Rattle.guest_bodies.specs.Shown.{seen_in}
use Rattle.guest_calls.specs.State.{State}

-- one process takes signals otherwise; what each sees is as before
pub record Rehandled (pid : ℕ) (change : Handling → Handling) (old new : State) : Type 0 where
  pub seen : (p : ℕ) → seen_in new.guests p ≡ seen_in old.guests p
  pub kernel : new.kernel ≡ with_handling pid change old.kernel
  pub events : new.events ≡ old.events

-- a call gives a signal a handler, if it may be set
abbrev pub handling_as : Machine → ℕ → ℕ → ℕ → Request
handling_as m pid signal handler =
    unless_refused m.kernel
    (refuse BAD_ARGUMENT (not (can_set signal handler)) ∷ [])
    (returns 0 (with_handling pid (λ h. record h { handlers = with_handler h.handlers signal handler }) m.kernel))

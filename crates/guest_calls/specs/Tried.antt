-- Calls that may ask a device, whether they end or not.
use Rattle.std.specs.Prelude.{◌≡◌, ◌↔◌, ℕ, Result, IfOk, OnErr, IsErrOf, IsTrue}
use Rattle.parts_model.specs.Replies.{Answered}
use Rattle.acts_model.specs.Bodies.{View}
use Rattle.arn_model.specs.Doing.{Request}
use Rattle.arn_model.specs.Kernel.{Machine}
use Rattle.arn_model.specs.Row.{is_waiting}
use Rattle.guest_devices.specs.Answers as devices
use Rattle.guest_calls.specs.Asked.{Ended}
use Rattle.guest_calls.specs.Fits.{IsShort}
use Rattle.guest_calls.specs.State.{State, OfProcess}
use Rattle.guest_calls.specs.declared.outcomes.CallStop.{CallStop}
use Rattle.guest_calls.specs.declared.outcomes.CallStop.TheVariants as stop
use Rattle.guest_calls.specs.declared.outcomes.Done.{Done}

-- The call of this row was tried. It has ended as the row says, with a short record; it isn't ready exactly where the row waits; and an error changes nothing and asks nothing.
pub record Tried {A : Type 0} (answers : A → devices.Asked → Answered → A → Type 0) (asked asked' : A) (row : Machine → ℕ → View → Request) (pid : ℕ) (result : Result Done CallStop) (old new : State) : Type 0 where
  pub ended : IfOk result (λ done. OfProcess old pid (λ m v. Ended answers asked asked' (row m pid v) done m pid v new))
  pub short : IfOk result (λ done. IsShort done.extra)
  pub waits : OfProcess old pid (λ m v. IsErrOf result stop.NotReady ↔ IsTrue (is_waiting (row m pid v)))
  pub err : OnErr result (new ≡ old)
  pub unasked : OnErr result (asked' ≡ asked)

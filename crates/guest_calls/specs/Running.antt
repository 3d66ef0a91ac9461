-- Many instructions of a process, one behind the other.
use Rattle.std.specs.Prelude.{◌≡◌, ℕ, zero, suc}
use Rattle.acts_model.specs.Views.{stands_at}
use Rattle.rv64_core.specs.declared.outcome.Outcome.TheVariants as outcome
use Rattle.guest_bodies.specs.Shown.{IsLive}
use Rattle.guest_calls.specs.State.{State, OfProcess}
use Rattle.guest_calls.specs.Steps.{Stepped}

-- behind those before, one more instruction of a live process, which the next one follows
pub record SteppedAnother (Before : State → Type 0) (pid : ℕ) (new : State) : Type 0 where
  pub between : State
  pub before : Before between
  pub live : IsLive between.guests pid
  pub stepped : OfProcess between pid (λ m v. Stepped outcome.Next m pid v (stands_at v) between new)

-- so many instructions of a process, one behind the other, each of which the next one follows
abbrev pub SteppedMany : ℕ → ℕ → State → State → Type 0
SteppedMany zero pid old new = new ≡ old
SteppedMany (suc n) pid old new = SteppedAnother (SteppedMany n pid old) pid new

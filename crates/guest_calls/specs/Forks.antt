-- A child that a process has made.
use Rattle.std.specs.Prelude.{◌≡◌, ℕ, ◌+◌}
use Rattle.parts_model.specs.Processes.{next_process}
use Rattle.acts_model.specs.Acts.{beginning_of, done, founded}
use Rattle.acts_model.specs.Bodies.{Bodies, View}
use Rattle.arn_model.specs.Kernel.{Machine, forked}
use Rattle.arn_model.specs.ProcessCalls.{child_act}
use Rattle.guest_calls.specs.State.{State, StandsFor}

-- bodies after a process that sees this has made a child at an event
abbrev pub with_child : ℕ → ℕ → ℕ → View → Bodies → Bodies
with_child pid child event v b = founded (child_act v.body.segment child) event (beginning_of v) (done pid event (child_act v.body.segment child) b)

-- it has the next number, and the kernel knows of it
pub record HasChild (child : ℕ) (m : Machine) (pid : ℕ) (v : View) (new : State) : Type 0 where
  pub number : child ≡ next_process m.kernel.processes
  pub stands : StandsFor new (record { bodies = with_child pid child m.events v m.bodies; kernel = forked pid m.kernel; events = m.events + 1 })

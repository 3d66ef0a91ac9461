-- The state of a kernel, and the machines that it stands for.
use Rattle.std.specs.Prelude.{◌≡◌, ℕ, ◌+◌, ◌<◌, ◌^◌, [], Some}
use Rattle.acts_model.specs.Bodies.{View, seen}
use Rattle.arn_model.specs.Kernel.{Kernel, Machine, at_first}
use Rattle.guest_bodies.specs.Shown.{Guests, seen_in}

-- what live processes see and how they take signals, what the kernel keeps beside them, and how many events there have been
pub record State : Type 0 where
  pub guests : Guests
  pub kernel : Kernel
  pub events : ℕ

-- before anything has come from outside
abbrev pub state_first : State
state_first = record { guests = []; kernel = at_first.kernel; events = 0 }

-- The state stands for a machine: each process sees the same. Of memories that nobody holds nothing is said.
pub record StandsFor (s : State) (m : Machine) : Type 0 where
  pub seen : (p : ℕ) → seen_in s.guests p ≡ seen m.bodies p
  pub kernel : s.kernel ≡ m.kernel
  pub events : s.events ≡ m.events

-- whatever machine a state stood for, another stands for what the change makes of it
pub record Becomes (old : State) (change : Machine → Machine) (new : State) : Type 0 where
  pub stands : (m : Machine) → StandsFor old m → StandsFor new (change m)

-- a fact of each machine that a state stands for, and of what a process sees in it
abbrev pub OfProcess : State → ℕ → (Machine → View → Type 0) → Type 0
OfProcess s pid P = (m : Machine) (v : View) → StandsFor s m → seen m.bodies pid ≡ Some v → P m v

-- this is the number of the event that comes next, and there may be one more
pub record IsNext (s : State) (event : ℕ) : Type 0 where
  pub number : event ≡ s.events
  pub room : event + 1 < 2 ^ 64

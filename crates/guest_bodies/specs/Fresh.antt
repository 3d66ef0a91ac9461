-- When an event is fresh: it made no memory that a live process holds.
use Rattle.std.specs.Prelude.{◌≡◌, ◌≢◌, ◌<◌, ℕ, List, Some, IfSome}
use Rattle.arn_base.specs.Window.{Window}
use Rattle.arn_base.specs.declared.machine.Cpu.{Cpu}
use Rattle.acts_model.specs.Acts.{Act, Beginning, begun, done}
use Rattle.acts_model.specs.Bodies.{Body, Bodies, View, body_at, put, seen}
use Rattle.acts_model.specs.Views.{with_cpu, with_reach}
use Rattle.guest_bodies.specs.Follows.{Shows}
use Rattle.guest_bodies.specs.Shown.{Guests, IsFresh, IsUnheldBy}

-- every memory of the body was made before this event
pub record IsBefore (event : ℕ) (x : Body) : Type 0 where
  pub window : x.window < event
  pub segment : IfSome x.segment (λ made. made < event)

-- where all memories of bodies were made before an event, it is fresh to processes that see the same
abbrev pub LaterIsFresh : Type 0
LaterIsFresh = (guests : Guests) (b : Bodies) (event : ℕ) → Shows guests b → ((p : ℕ) → IfSome (body_at b p) (IsBefore event)) → IsFresh guests event

-- no body holds a memory that the event made
pub record IsUnheld (event : ℕ) (b : Bodies) : Type 0 where
  pub unheld : (p : ℕ) → IfSome (body_at b p) (IsUnheldBy event)

-- What happens at one event takes no memory that another made: an act, a group that begins, and an instruction.
pub record OthersStayUnheld : Type 0 where
  pub shown : (guests : Guests) (b : Bodies) (event : ℕ) → Shows guests b → IsUnheld event b → IsFresh guests event
  pub acts : (b : Bodies) (pid event other : ℕ) (act : Act) → other ≢ event → IsUnheld other b → IsUnheld other (done pid event act b)
  pub begins : (b : Bodies) (child event other : ℕ) (x : Beginning) → other ≢ event → IsUnheld other b → IsUnheld other (begun child event x b)
  pub runs : (b : Bodies) (pid other : ℕ) (v : View) (cpu : Cpu) (memory : List Window) → seen b pid ≡ Some v → IsUnheld other b → IsUnheld other (put pid (with_reach memory (with_cpu cpu v)) b)

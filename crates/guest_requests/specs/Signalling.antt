-- What a call that makes a signal pending comes to.
use Rattle.std.specs.Prelude.{◌≡◌, IsSome, IsTrue}
use Rattle.parts_model.specs.Processes.{live_process}
use Rattle.parts_model.specs.Signals.{is_signal}
use Rattle.arn_model.specs.Doing.{Request, returns}
use Rattle.arn_model.specs.Kernel.{Kernel, Machine}
use Rattle.arn_model.specs.SignalCalls.{posted}
use Rattle.guest_requests.specs.declared.signalling.Killing.{Killing}
use Rattle.guest_requests.specs.declared.signalling.Killing.TheVariants as killing

-- what a kill comes to
abbrev pub IsKill : Killing → Machine → Request → Type 0
IsKill (killing.Answers answer) m request = request ≡ returns answer m.kernel
IsKill (killing.Posts target signal) m request = request ≡ returns 0 (posted target signal m.kernel)

-- it is a signal, and its process lives
abbrev pub CanPost : Killing → Kernel → Type 0
CanPost (killing.Answers answer) k = Unit {0}
CanPost (killing.Posts target signal) k = IsSome (live_process k.processes target) × IsTrue (is_signal signal)

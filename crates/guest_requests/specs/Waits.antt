-- What a wait comes to.
use Rattle.std.specs.Prelude.{◌≡◌, ℕ, Some}
use Rattle.parts_model.specs.Processes.{Processes}
use Rattle.acts_model.specs.Bodies.{View}
use Rattle.arn_model.specs.Doing.{Request, Waits, returns}
use Rattle.arn_model.specs.Kernel.{Machine}
use Rattle.arn_model.specs.ProcessCalls.{wait_status}
use Rattle.guest_procs.specs.Answers.{lowest_ended}
use Rattle.guest_procs.specs.Status.{status_byte}
use Rattle.guest_procs.specs.declared.answers.Ended.{Ended}
use Rattle.guest_requests.specs.declared.waiting.Waiting.{Waiting}
use Rattle.guest_requests.specs.declared.waiting.Waiting.TheVariants as waiting

-- a process receives the status of a child that has ended so
abbrev pub collecting : Machine → View → Ended → Request
collecting m v child = wait_status m v child.pid (Some (status_byte child.status child.event))

-- what a wait comes to
abbrev pub IsWait : Waiting → Machine → View → Request → Type 0
IsWait (waiting.Answers answer) m v request = request ≡ returns answer m.kernel
IsWait waiting.Waits m v request = request ≡ Waits
IsWait (waiting.Collects child) m v request = request ≡ collecting m v child

-- it is the lowest child of a process that has ended
abbrev pub IsLowest : Waiting → Processes → ℕ → Type 0
IsLowest (waiting.Answers answer) all pid = Unit {0}
IsLowest waiting.Waits all pid = Unit {0}
IsLowest (waiting.Collects child) all pid = lowest_ended all pid ≡ Some child

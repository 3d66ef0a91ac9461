-- What a call that opens a device comes to.
use Rattle.std.specs.Prelude.{◌≡◌, ℕ, false}
use Rattle.arn_model.specs.Doing.{Request, Does, Asks, Here, returns}
use Rattle.arn_model.specs.FileCalls.{has_no_room}
use Rattle.arn_model.specs.Kernel.{Kernel, Machine}
use Rattle.arn_model.specs.TransferCalls.{absent}
use Rattle.guest_requests.specs.declared.opening.Opening.{Opening}
use Rattle.guest_requests.specs.declared.opening.Opening.TheVariants as opening

-- what it comes to
abbrev pub IsOpening : Opening → Machine → Request → Type 0
IsOpening (opening.Answers answer) m request = request ≡ returns answer m.kernel
IsOpening opening.Absent m request = request ≡ Does (absent m.kernel)
IsOpening (opening.Asks device) m request = request ≡ Asks (Here device)

-- a process that asks for a device has a free descriptor
abbrev pub CanOpen : Opening → Kernel → ℕ → Type 0
CanOpen (opening.Answers answer) k pid = Unit {0}
CanOpen opening.Absent k pid = Unit {0}
CanOpen (opening.Asks device) k pid = has_no_room k pid ≡ false

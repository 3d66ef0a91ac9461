-- What an accept comes to.
use Rattle.std.specs.Prelude.{◌≡◌, ℕ, false, Some}
use Rattle.arn_model.specs.ChannelCalls.{accept_conn}
use Rattle.arn_model.specs.Doing.{Request, Waits, returns}
use Rattle.arn_model.specs.FileCalls.{has_no_room}
use Rattle.arn_model.specs.Kernel.{Kernel, Machine}
use Rattle.guest_requests.specs.declared.accepting.Accepting.{Accepting}
use Rattle.guest_requests.specs.declared.accepting.Accepting.TheVariants as accepting

-- what an accept comes to
abbrev pub IsAccept : Accepting → Machine → ℕ → Request → Type 0
IsAccept (accepting.Answers answer) m pid request = request ≡ returns answer m.kernel
IsAccept accepting.Waits m pid request = request ≡ Waits
IsAccept (accepting.Accepts port conn) m pid request = request ≡ accept_conn m pid port (Some conn)

-- a process that accepts has a free descriptor
abbrev pub CanAccept : Accepting → Kernel → ℕ → Type 0
CanAccept (accepting.Answers answer) k pid = Unit {0}
CanAccept accepting.Waits k pid = Unit {0}
CanAccept (accepting.Accepts port conn) k pid = has_no_room k pid ≡ false

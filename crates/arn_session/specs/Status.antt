-- How a session ends.
use Rattle.std.specs.Prelude.{ℕ, ◌+◌, ◌<◌, length}
use Rattle.log_store.specs.Log.{log_name}
use Rattle.log_store.specs.declared.errors.OpenError.{OpenError}
use Rattle.log_store.specs.declared.errors.OpenError.TheVariants as opening
use Rattle.arn_session.specs.declared.status.Status.{Status}
use Rattle.arn_session.specs.declared.status.Status.TheVariants as status
use Rattle.arn_session.specs.declared.status.Damage.TheVariants as damage
use Rattle.log_store.specs.declared.size.TheConstants.{MOST_LOG}
use Rattle.session_effects.specs.declared.halt.Halt.{Halt}
use Rattle.session_effects.specs.declared.halt.Halt.TheVariants as halt

-- the code with which the program ends
abbrev pub code_of : Status → ℕ
code_of status.Done = 0
code_of status.Usage = 2
code_of status.Disk = 3
code_of (status.Damaged why) = 4
code_of status.NoMemory = 5
code_of status.Source = 6
code_of status.Sink = 7
code_of (status.Full log payload) = 8
code_of status.Long = 9

-- the status of a session that ends before its text does
abbrev pub status_of : Halt → Status
status_of halt.NoMemory = status.NoMemory
status_of halt.Source = status.Source
status_of halt.Sink = status.Sink
status_of halt.Long = status.Long
status_of halt.Disk = status.Disk
status_of (halt.Full log payload) = status.Full log payload
status_of (halt.Differs d) = status.Damaged (damage.Differs d)

-- the status of a session whose log isn't opened
abbrev pub open_status_of : OpenError → Status
open_status_of (opening.TooLong len) = status.Damaged (damage.TooLong len)
open_status_of (opening.NotLog at) = status.Damaged (damage.NotLog at)
open_status_of (opening.Malformed at) = status.Damaged (damage.Malformed at)
open_status_of opening.Disk = status.Disk
open_status_of opening.NoMemory = status.NoMemory

-- the numbers of a status are what they say: the log is too long, has another byte within its name, has none of a log's bytes before its
-- greatest length, or has no room for a commit of so many bytes
abbrev pub NumbersHold : Status → Type 0
NumbersHold status.Done = Unit {0}
NumbersHold status.Usage = Unit {0}
NumbersHold status.Disk = Unit {0}
NumbersHold (status.Damaged (damage.TooLong len)) = MOST_LOG < len
NumbersHold (status.Damaged (damage.NotLog at)) = at < length log_name
NumbersHold (status.Damaged (damage.Malformed at)) = at < MOST_LOG
NumbersHold (status.Damaged (damage.Broken place)) = Unit {0}
NumbersHold (status.Damaged (damage.Differs d)) = Unit {0}
NumbersHold status.NoMemory = Unit {0}
NumbersHold status.Source = Unit {0}
NumbersHold status.Sink = Unit {0}
NumbersHold (status.Full log payload) = MOST_LOG < log + 5 + payload
NumbersHold status.Long = Unit {0}

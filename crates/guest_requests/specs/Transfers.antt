-- What a call that moves bytes comes to.
use Rattle.std.specs.Prelude.{◌≡◌, ◌≤◌, ◌<◌, ℕ, true, false, List, [], length, Result, Ok, Err, Some, IfSome, IsSome, IsTrue, option_map, unwrap_or}
use Rattle.parts_model.specs.declared.limits.TheConstants.{MOST_TRANSFER}
use Rattle.parts_model.specs.Channel.{front, without_front}
use Rattle.parts_model.specs.Files.{file_bytes, read_from}
use Rattle.parts_model.specs.Numbered.{nth}
use Rattle.parts_model.specs.Pipes.{can_put, can_take}
use Rattle.acts_model.specs.Bodies.{View}
use Rattle.acts_model.specs.Moved.{ConsoleByte}
use Rattle.acts_model.specs.Views.{argument, bytes_in, read}
use Rattle.arn_model.specs.Doing as doing
use Rattle.arn_model.specs.Doing.{Request, Waits, Does, Asks, returns}
use Rattle.arn_model.specs.Kernel.{Kernel, Machine, what_is}
use Rattle.arn_model.specs.Row.{is_waiting}
use Rattle.arn_model.specs.TransferCalls.{absent, cut, if_moving, read_console, read_file, read_pipe, read_what, receiving, unless_unplugged, write_console, write_file, write_pipe, write_what}
use Rattle.guest_resources.specs.Resources.{IsIn, is_of}
use Rattle.guest_requests.specs.declared.reading.Place.{Place}
use Rattle.guest_requests.specs.declared.reading.Reading.{Reading}
use Rattle.guest_requests.specs.declared.reading.Reading.TheVariants as reading
use Rattle.guest_requests.specs.declared.writing.Writing.{Writing}
use Rattle.guest_requests.specs.declared.writing.Writing.TheVariants as writing

-- a transfer that moves so many bytes at most goes on, and one that moves none has a result
abbrev pub moved_by : Result ℕ ℕ → Machine → Request → Request
moved_by (Ok most) m goes_on = goes_on
moved_by (Err answer) m goes_on = returns answer m.kernel

-- a process receives the first bytes of the console's queue
abbrev pub taking : Machine → ℕ → ℕ → Request
taking m at count =
    let held = front m.kernel.console count in
    Does (receiving at (ConsoleByte m.kernel.console.taken) held (record m.kernel { console = without_front m.kernel.console (length held) }))

-- a description's place is this, in a file that is there
pub record IsOpenAt (k : Kernel) (place : Place) : Type 0 where
  pub within : IsIn (nth k.files.all place.file) place.position
  pub own : IfSome (nth k.descriptions place.number) (λ o. IsTrue (is_of place.file o.what))

-- a read of so many bytes behind it, at most
abbrev pub reading_at : Machine → ℕ → ℕ → Place → Request
reading_at m at most place =
    read_file m place.number at place.file place.position (read_from (unwrap_or (file_bytes m.kernel.files place.file) []) place.position most)

-- a write of bytes behind it
abbrev pub writing_at : Machine → ℕ → List ℕ → Place → Request
writing_at m at bytes place = write_file m place.number at place.file place.position bytes

-- a read of so many bytes from a pipe, at most
abbrev pub draining : Machine → ℕ → ℕ → ℕ → Request
draining m at most pipe = read_pipe m pipe at most (nth m.kernel.pipes pipe)

-- a write of bytes to one
abbrev pub pouring : Machine → ℕ → List ℕ → ℕ → Request
pouring m at bytes pipe = write_pipe m pipe at bytes (nth m.kernel.pipes pipe)

-- the pipe is there, and a read from it is ready
abbrev pub CanDrain : Kernel → ℕ → Type 0
CanDrain k pipe = option_map can_take (nth k.pipes pipe) ≡ Some true

-- the pipe is there, and a write to it is ready
abbrev pub CanPour : Kernel → ℕ → Type 0
CanPour k pipe = option_map can_put (nth k.pipes pipe) ≡ Some true

-- what a read comes to
abbrev pub IsReading : Reading → Machine → Request → Type 0
IsReading (reading.Answers answer) m request = request ≡ returns answer m.kernel
IsReading reading.Waits m request = request ≡ Waits
IsReading (reading.Takes at count) m request = request ≡ taking m at count
IsReading (reading.Reads at most place) m request = (request ≡ reading_at m at most place) × (is_waiting request ≡ false)
IsReading (reading.Drains at most pipe) m request = (request ≡ draining m at most pipe) × (is_waiting request ≡ false)
IsReading reading.Absent m request = request ≡ Does (absent m.kernel)
IsReading (reading.Asks device at most) m request = request ≡ Asks (doing.Reads device at most)

-- so many bytes wait in the console's queue, the place is there, the pipe is ready, and no more are moved than may be
abbrev pub CanTake : Reading → Kernel → Type 0
CanTake (reading.Answers answer) k = Unit {0}
CanTake reading.Waits k = Unit {0}
CanTake (reading.Takes at count) k = (count ≤ length k.console.queue) × (count ≤ MOST_TRANSFER)
CanTake (reading.Reads at most place) k = IsOpenAt k place × (most ≤ MOST_TRANSFER)
CanTake (reading.Drains at most pipe) k = CanDrain k pipe × (0 < most) × (most ≤ MOST_TRANSFER)
CanTake reading.Absent k = Unit {0}
CanTake (reading.Asks device at most) k = most ≤ MOST_TRANSFER

-- what a write comes to
abbrev pub IsWriting : Writing → Machine → View → Request → Type 0
IsWriting (writing.Answers answer) m v request = request ≡ returns answer m.kernel
IsWriting writing.Waits m v request = request ≡ Waits
IsWriting (writing.Prints at count) m v request = request ≡ write_console m at (read v at count)
IsWriting (writing.Puts at count place) m v request = request ≡ writing_at m at (read v at count) place
IsWriting (writing.Pours at count pipe) m v request = (request ≡ pouring m at (read v at count) pipe) × (is_waiting request ≡ false)
IsWriting writing.Absent m v request = request ≡ Does (absent m.kernel)
IsWriting (writing.Asks device at count) m v request = request ≡ Asks (doing.Writes device at count)

-- the bytes and the place are there, the pipe is ready, and no more are moved than may be
abbrev pub CanPrint : Writing → Kernel → View → Type 0
CanPrint (writing.Answers answer) k v = Unit {0}
CanPrint writing.Waits k v = Unit {0}
CanPrint (writing.Prints at count) k v = IsSome (bytes_in v at count) × (count ≤ MOST_TRANSFER)
CanPrint (writing.Puts at count place) k v = IsOpenAt k place × IsSome (bytes_in v at count) × (count ≤ MOST_TRANSFER)
CanPrint (writing.Pours at count pipe) k v = CanPour k pipe × IsSome (bytes_in v at count) × (count ≤ MOST_TRANSFER)
CanPrint writing.Absent k v = Unit {0}
CanPrint (writing.Asks device at count) k v = IsSome (bytes_in v at count) × (count ≤ MOST_TRANSFER)

-- a read from the console
abbrev pub console_read : Machine → View → Request
console_read m v =
    let count = argument v.body.cpu 2 in
    let at = argument v.body.cpu 1 in
    if_moving m v at count (read_console m at (front m.kernel.console (cut count)))

-- a write to it
abbrev pub console_write : Machine → View → Request
console_write m v =
    let count = argument v.body.cpu 2 in
    let at = argument v.body.cpu 1 in
    if_moving m v at count (write_console m at (read v at (cut count)))

-- a read from a file
abbrev pub file_read : Machine → View → Place → Request
file_read m v place =
    let count = argument v.body.cpu 2 in
    let at = argument v.body.cpu 1 in
    if_moving m v at count (reading_at m at (cut count) place)

-- a write to one
abbrev pub file_write : Machine → View → Place → Request
file_write m v place =
    let count = argument v.body.cpu 2 in
    let at = argument v.body.cpu 1 in
    if_moving m v at count (writing_at m at (read v at (cut count)) place)

-- a read from a pipe
abbrev pub pipe_read : Machine → View → ℕ → Request
pipe_read m v pipe =
    let count = argument v.body.cpu 2 in
    let at = argument v.body.cpu 1 in
    if_moving m v at count (draining m at (cut count) pipe)

-- a write to one
abbrev pub pipe_write : Machine → View → ℕ → Request
pipe_write m v pipe =
    let count = argument v.body.cpu 2 in
    let at = argument v.body.cpu 1 in
    if_moving m v at count (pouring m at (read v at (cut count)) pipe)

-- a read from a device
abbrev pub from_device : Machine → View → ℕ → Request
from_device m v device =
    let count = argument v.body.cpu 2 in
    let at = argument v.body.cpu 1 in
    if_moving m v at count (unless_unplugged m device (doing.Reads device at (cut count)))

-- a write to one
abbrev pub to_device : Machine → View → ℕ → Request
to_device m v device =
    let count = argument v.body.cpu 2 in
    let at = argument v.body.cpu 1 in
    if_moving m v at count (unless_unplugged m device (doing.Writes device at (cut count)))

-- a read from a description of this number
abbrev pub number_read : Machine → View → ℕ → Request
number_read m v n = read_what m v n (argument v.body.cpu 1) (argument v.body.cpu 2) (what_is m.kernel n)

-- a write to it
abbrev pub number_write : Machine → View → ℕ → Request
number_write m v n = write_what m v n (argument v.body.cpu 1) (argument v.body.cpu 2) (what_is m.kernel n)

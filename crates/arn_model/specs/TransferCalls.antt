-- The calls that move bytes: read and write.
use Rattle.std.specs.Prelude.{ℕ, ◌+◌, ◌==◌, not, Bool, true, false, if◌then◌else◌, List, [], ◌∷◌, length, take, min, Option, Some, None, unwrap_or}
use Rattle.std.specs.List.{list_any}
use Rattle.arn_base.specs.declared.records.Extra.{Extra}
use Rattle.arn_base.specs.declared.records.Extra.TheVariants as extra
use Rattle.parts_model.specs.declared.limits.TheConstants.{MOST_TRANSFER, MOST_FILE_BYTES}
use Rattle.parts_model.specs.declared.open.Description.{Description}
use Rattle.parts_model.specs.declared.open.Description.TheVariants as description
use Rattle.parts_model.specs.declared.refusals.TheConstants.{DEVICE_FAULT, BAD_DESCRIPTOR, NO_ROOM, BAD_ADDRESS, NO_DEVICE, BROKEN_PIPE}
use Rattle.parts_model.specs.declared.tagged.TaggedByte.{TaggedByte}
use Rattle.parts_model.specs.Channel.{front, without_front, channel_end}
use Rattle.parts_model.specs.Files.{file_bytes, fitting, read_from, written}
use Rattle.parts_model.specs.Numbered.{nth}
use Rattle.parts_model.specs.Pipes.{Pipe, room, with_put, with_taken, with_change}
use Rattle.parts_model.specs.Replies.{ReadReply, Reads, ReadFails, ReadAbsent, WriteReply, Takes, WriteFails, WriteAbsent}
use Rattle.parts_model.specs.Tagged.{values, given}
use Rattle.acts_model.specs.Acts.{Receives, Gives}
use Rattle.acts_model.specs.Bodies.{View}
use Rattle.acts_model.specs.Moved.{KernelByte, ConsoleByte, PipeByte, FileByte, Range, Outside, Nothing, From}
use Rattle.acts_model.specs.Views.{argument, can_reach, read, error}
use Rattle.arn_model.specs.Doing as doing
use Rattle.arn_model.specs.Doing.{Doing, Request, Waits, Does, Asks, returning, returns, refused, refuse, unless_refused}
use Rattle.arn_model.specs.Kernel.{Kernel, Machine, description_of, what_is, with_description}

-- a count of bytes, cut to what one call moves
abbrev pub cut : ℕ → ℕ
cut count = min count MOST_TRANSFER

-- a transfer of no bytes answers 0 without a look at the address; one whose range can't be reached is refused
abbrev pub if_moving : Machine → View → ℕ → ℕ → Request → Request
if_moving m v at count goes_on =
    if count == 0 then returns 0 m.kernel else unless_refused m.kernel (refuse BAD_ADDRESS (not (can_reach v at (cut count))) ∷ []) goes_on

-- a process received bytes that the kernel held from this byte on
abbrev pub receiving : ℕ → KernelByte → List TaggedByte → Kernel → Doing
receiving at first held k =
    record {
      act = Receives at (values held) (length held);
      extra = extra.Give (given held);
      incoming = From (record { first = first; len = length held });
      outgoing = None;
      bytes = values held;
      kernel = k;
    }

-- no byte is there any more
abbrev pub received : Machine → ℕ → KernelByte → List TaggedByte → Kernel → Request
received m at first [] k = returns 0 m.kernel
received m at first (b ∷ held) k = Does (receiving at first (b ∷ held) k)

-- from the console, which waits for the first byte
abbrev pub read_console : Machine → ℕ → List TaggedByte → Request
read_console m at [] = Waits
read_console m at (b ∷ held) =
    Does (receiving at (ConsoleByte m.kernel.console.taken) (b ∷ held) (record m.kernel { console = without_front m.kernel.console (length (b ∷ held)) }))

-- from a file behind the position, which moves on
abbrev pub read_file : Machine → ℕ → ℕ → ℕ → ℕ → List TaggedByte → Request
read_file m n at file position held = received m at (FileByte file position) held (with_description n (description.File file (position + length held)) m.kernel)

-- from a pipe that is empty: nothing is read where no writer is left
abbrev pub read_empty : Machine → Bool → Request
read_empty m true = Waits
read_empty m false = returns 0 m.kernel

abbrev pub read_queue : Machine → ℕ → ℕ → Pipe → List TaggedByte → Request
read_queue m pipe at p [] = read_empty m p.has_writer
read_queue m pipe at p (b ∷ held) =
    Does (receiving at (PipeByte pipe p.channel.taken) (b ∷ held) (record m.kernel { pipes = with_change m.kernel.pipes pipe (λ q. with_taken q (length (b ∷ held))) }))

abbrev pub read_pipe : Machine → ℕ → ℕ → ℕ → Option Pipe → Request
read_pipe m pipe at most None = refused BAD_DESCRIPTOR m.kernel
read_pipe m pipe at most (Some p) = read_queue m pipe at p (front p.channel most)

-- the device was unplugged
abbrev pub was_unplugged : Kernel → ℕ → Bool
was_unplugged k device = list_any (λ d. d == device) k.unplugged

-- there is no such device
abbrev pub absent : Kernel → Doing
absent k = returning (error NO_DEVICE) extra.Absent k

-- one that was unplugged isn't asked
abbrev pub unless_unplugged : Machine → ℕ → doing.Question → Request
unless_unplugged m device question = if was_unplugged m.kernel device then Does (absent m.kernel) else Asks question

-- from what a description is
abbrev pub read_from_what : Machine → View → ℕ → ℕ → ℕ → Description → Request
read_from_what m v n at count description.Console = if_moving m v at count (read_console m at (front m.kernel.console (cut count)))
read_from_what m v n at count (description.File file position) =
    if_moving m v at count (read_file m n at file position (read_from (unwrap_or (file_bytes m.kernel.files file) []) position (cut count)))
read_from_what m v n at count (description.Reader pipe) = if_moving m v at count (read_pipe m pipe at (cut count) (nth m.kernel.pipes pipe))
read_from_what m v n at count (description.Connection reads writes) = if_moving m v at count (read_pipe m reads at (cut count) (nth m.kernel.pipes reads))
read_from_what m v n at count (description.Device device) = if_moving m v at count (unless_unplugged m device (doing.Reads device at (cut count)))
read_from_what m v n at count (description.Writer pipe) = refused BAD_DESCRIPTOR m.kernel
read_from_what m v n at count (description.Listener port) = refused BAD_DESCRIPTOR m.kernel

abbrev pub read_what : Machine → View → ℕ → ℕ → ℕ → Option Description → Request
read_what m v n at count None = refused BAD_DESCRIPTOR m.kernel
read_what m v n at count (Some what) = read_from_what m v n at count what

abbrev pub read_opened : Machine → View → ℕ → ℕ → Option ℕ → Request
read_opened m v at count None = refused BAD_DESCRIPTOR m.kernel
read_opened m v at count (Some n) = read_what m v n at count (what_is m.kernel n)

-- read(descriptor, address, count): the number of bytes
abbrev pub read_row : Machine → ℕ → View → Request
read_row m pid v = read_opened m v (argument v.body.cpu 1) (argument v.body.cpu 2) (description_of m.kernel pid (argument v.body.cpu 0))

-- a process gave bytes, which became these of the kernel's
abbrev pub giving : ℕ → List ℕ → Extra → Option Range → Kernel → Doing
giving at bytes more outgoing k =
    record { act = Gives at (length bytes) (length bytes); extra = more; incoming = Nothing; outgoing = outgoing; bytes = bytes; kernel = k }

-- to the console, which takes all
abbrev pub write_console : Machine → ℕ → List ℕ → Request
write_console m at bytes = Does (giving at bytes (extra.Console bytes) None m.kernel)

-- to a file over what stands behind the position, which moves on; a file takes what fits
abbrev pub put_into_file : Machine → ℕ → ℕ → ℕ → ℕ → List ℕ → Doing
put_into_file m n at file position bytes =
    giving at bytes (extra.Put file position bytes) (Some (record { first = FileByte file position; len = length bytes }))
    (with_description n (description.File file (position + length bytes)) (record m.kernel { files = written m.kernel.files file position bytes m.events }))

abbrev pub write_file : Machine → ℕ → ℕ → ℕ → ℕ → List ℕ → Request
write_file m n at file position bytes =
    unless_refused m.kernel
    (refuse NO_ROOM (position == MOST_FILE_BYTES) ∷ [])
    (Does (put_into_file m n at file position (take (fitting position (length bytes)) bytes)))

-- to a pipe, which takes as many as it has room for
abbrev pub put_into_pipe : Machine → ℕ → ℕ → Pipe → List ℕ → Doing
put_into_pipe m pipe at p bytes =
    giving at bytes extra.Nothing (Some (record { first = PipeByte pipe (channel_end p.channel); len = length bytes }))
    (record m.kernel { pipes = with_change m.kernel.pipes pipe (λ q. with_put q bytes m.events) })

abbrev pub write_room : Machine → ℕ → ℕ → Pipe → List ℕ → Request
write_room m pipe at p bytes =
    unless_refused m.kernel
    (refuse BROKEN_PIPE (not p.has_reader) ∷ [])
    (if room p == 0 then Waits else Does (put_into_pipe m pipe at p (take (room p) bytes)))

abbrev pub write_pipe : Machine → ℕ → ℕ → List ℕ → Option Pipe → Request
write_pipe m pipe at bytes None = refused BAD_DESCRIPTOR m.kernel
write_pipe m pipe at bytes (Some p) = write_room m pipe at p bytes

-- to what a description is
abbrev pub write_to_what : Machine → View → ℕ → ℕ → ℕ → Description → Request
write_to_what m v n at count description.Console = if_moving m v at count (write_console m at (read v at (cut count)))
write_to_what m v n at count (description.File file position) = if_moving m v at count (write_file m n at file position (read v at (cut count)))
write_to_what m v n at count (description.Writer pipe) = if_moving m v at count (write_pipe m pipe at (read v at (cut count)) (nth m.kernel.pipes pipe))
write_to_what m v n at count (description.Connection reads writes) =
    if_moving m v at count (write_pipe m writes at (read v at (cut count)) (nth m.kernel.pipes writes))
write_to_what m v n at count (description.Device device) = if_moving m v at count (unless_unplugged m device (doing.Writes device at (cut count)))
write_to_what m v n at count (description.Reader pipe) = refused BAD_DESCRIPTOR m.kernel
write_to_what m v n at count (description.Listener port) = refused BAD_DESCRIPTOR m.kernel

abbrev pub write_what : Machine → View → ℕ → ℕ → ℕ → Option Description → Request
write_what m v n at count None = refused BAD_DESCRIPTOR m.kernel
write_what m v n at count (Some what) = write_to_what m v n at count what

abbrev pub write_opened : Machine → View → ℕ → ℕ → Option ℕ → Request
write_opened m v at count None = refused BAD_DESCRIPTOR m.kernel
write_opened m v at count (Some n) = write_what m v n at count (what_is m.kernel n)

-- write(descriptor, address, count): the number of bytes
abbrev pub write_row : Machine → ℕ → View → Request
write_row m pid v = write_opened m v (argument v.body.cpu 1) (argument v.body.cpu 2) (description_of m.kernel pid (argument v.body.cpu 0))

-- a device failed
abbrev pub device_failed : Kernel → Doing
device_failed k = returning (error DEVICE_FAULT) extra.Fault k

-- what a device gave is received from outside, also none
abbrev pub device_read : Machine → ℕ → ℕ → ReadReply → Doing
device_read m device at (Reads bytes) =
    record {
      act = Receives at bytes (length bytes);
      extra = extra.Reply device bytes;
      incoming = Outside;
      outgoing = None;
      bytes = bytes;
      kernel = m.kernel;
    }
device_read m device at ReadFails = device_failed m.kernel
device_read m device at ReadAbsent = absent m.kernel

-- what a device took, also none
abbrev pub device_write : Machine → ℕ → ℕ → List ℕ → WriteReply → Doing
device_write m device at bytes (Takes n) = giving at (take n bytes) (extra.Sent device (take n bytes)) None m.kernel
device_write m device at bytes WriteFails = device_failed m.kernel
device_write m device at bytes WriteAbsent = absent m.kernel

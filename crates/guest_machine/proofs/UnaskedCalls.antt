-- A call that asks no device records no answer of one, and none asks a device that was unplugged: one walk over the table of calls.
use Rattle.std.proofs.lemmas.Grind.{common_steps}
use Rattle.std.proofs.Common.{◌≡◌, ℕ, ◌==◌, Bool, true, false, cond, List, [], ◌∷◌, Option, None, Some, refl, arith}
use Rattle.std.proofs.lemmas.Bool.Decides.{nat_tests}
use Rattle.parts_model.specs.declared.calls.TheConstants.{EXIT, FORK, EXEC, WAIT, GETPID, KILL, SIGACTION, SIGRETURN, OPEN, CLOSE, READ, WRITE, SEEK, DUP, PIPE, UNLINK, SHM, LISTEN, CONNECT, ACCEPT, DEVICE, YIELD}
use Rattle.parts_model.specs.declared.open.Conn.{Conn}
use Rattle.parts_model.specs.declared.open.Description.{Description}
use Rattle.parts_model.specs.declared.open.Description.TheVariants as description
use Rattle.parts_model.specs.declared.refusals.TheConstants.{NO_PROCESS_ROOM, NO_SUCH_CALL}
use Rattle.parts_model.specs.declared.tagged.TaggedByte.{TaggedByte}
use Rattle.parts_model.specs.Channel.{front}
use Rattle.parts_model.specs.Files.{find_file, file_bytes}
use Rattle.parts_model.specs.Image.{is_image}
use Rattle.parts_model.specs.Pipes.{Pipe}
use Rattle.parts_model.specs.Processes as table
use Rattle.parts_model.specs.Tagged.{values}
use Rattle.acts_model.specs.Bodies.{View}
use Rattle.acts_model.specs.Moved.{KernelByte}
use Rattle.acts_model.specs.Views.{argument, call_number}
use Rattle.arn_model.specs.ChannelCalls.{accept_at, accept_conn, device_row}
use Rattle.arn_model.specs.Doing.{Doing, Question, Here, Reads, Writes, Request, Waits, Does, Asks, Refusal, refused, unless_refused}
use Rattle.arn_model.specs.FileCalls.{open_row, open_found, open_new, unlink_found, seek_in, seek_what, seek_opened, close_opened, dup_opened}
use Rattle.arn_model.specs.Kernel.{Kernel, Machine, description_of, what_is, opened}
use Rattle.arn_model.specs.Paths.{path_of}
use Rattle.arn_model.specs.ProcessCalls.{child_extra, fork_row, exec_file, exec_bytes, wait_child, wait_status}
use Rattle.arn_model.specs.Row.{row, request, is_built}
use Rattle.arn_model.specs.TransferCalls.{if_moving, read_opened, read_what, read_from_what, read_console, received, read_pipe, read_queue, read_empty, absent, unless_unplugged, was_unplugged, write_opened, write_what, write_to_what, write_pipe, write_room}
use Rattle.guest_machine.specs.Asked.{HoldsNoAnswer}

-- the device that a question asks
abbrev pub device_of : Question → ℕ
device_of (Here device) = device
device_of (Reads device at len) = device
device_of (Writes device at len) = device

-- what is done without a device records no answer of one, and one that was unplugged isn't asked
unfoldable pub Unasked : Machine → Request → Type 0
Unasked m Waits = Unit {0}
Unasked m (Does d) = HoldsNoAnswer d.extra
Unasked m (Asks question) = was_unplugged m.kernel (device_of question) ≡ false

if-Unasked : (m : Machine) (b : Bool) (x y : Request) → Unasked m x → Unasked m y → Unasked m (cond b x y)
if-Unasked m true x y is is' = is
if-Unasked m false x y is is' = is'

waits-Unasked : (m : Machine) → Unasked m Waits
unfolding Unasked
waits-Unasked m = tt

does-Unasked : (m : Machine) (d : Doing) → HoldsNoAnswer d.extra → Unasked m (Does d)
unfolding Unasked
does-Unasked m d is = is

asks-Unasked : (m : Machine) (question : Question) → was_unplugged m.kernel (device_of question) ≡ false → Unasked m (Asks question)
unfolding Unasked
asks-Unasked m question is = is

refused-Unasked : (m : Machine) (number : ℕ) (k : Kernel) → Unasked m (refused number k)
unfolding Unasked
refused-Unasked m number k = tt

unless_refused-Unasked : (m : Machine) (k : Kernel) (refusals : List Refusal) (goes_on : Request) → Unasked m goes_on → Unasked m (unless_refused k refusals goes_on)
unless_refused-Unasked m k [] goes_on is = is
unless_refused-Unasked m k (r ∷ refusals) goes_on is =
    if-Unasked m r.applies (refused r.number k) (unless_refused k refusals goes_on) (refused-Unasked m r.number k) (unless_refused-Unasked m k refusals goes_on is)

-- calls on processes
child-holds : (segment : Option ℕ) (v : View) → HoldsNoAnswer (child_extra segment v)
child-holds None v = tt
child-holds (Some made) v = tt

fork-Unasked : (m : Machine) (pid : ℕ) (v : View) → Unasked m (fork_row m pid v)
fork-Unasked m pid v =
    if-Unasked m (table.is_full m.kernel.processes) _ _ (refused-Unasked m NO_PROCESS_ROOM m.kernel) (does-Unasked m _ (child-holds v.body.segment v))

exec_bytes-Unasked : (m : Machine) (pid : ℕ) (v : View) (file : ℕ) (o : Option (List TaggedByte)) → Unasked m (exec_bytes m pid v file o)
exec_bytes-Unasked m pid v file None = search (tt, does-Unasked)
exec_bytes-Unasked m pid v file (Some held) = if-Unasked m (is_image (values held)) _ _ (search (tt, does-Unasked)) (search (tt, does-Unasked))

exec_file-Unasked : (m : Machine) (pid : ℕ) (v : View) (o : Option ℕ) → Unasked m (exec_file m pid v o)
exec_file-Unasked m pid v None = search (tt, does-Unasked)
exec_file-Unasked m pid v (Some file) = exec_bytes-Unasked m pid v file (file_bytes m.kernel.files file)

wait_status-Unasked : (m : Machine) (v : View) (child : ℕ) (o : Option TaggedByte) → Unasked m (wait_status m v child o)
wait_status-Unasked m v child None = waits-Unasked m
wait_status-Unasked m v child (Some status) = search (tt, does-Unasked)

wait_child-Unasked : (m : Machine) (v : View) (pids : List ℕ) → Unasked m (wait_child m v pids)
wait_child-Unasked m v [] = waits-Unasked m
wait_child-Unasked m v (child ∷ more) = wait_status-Unasked m v child (table.status_of m.kernel.processes child)

-- calls on names and descriptors
open_found-Unasked : (m : Machine) (pid : ℕ) (path : List ℕ) (o : Option ℕ) → Unasked m (open_found m pid path o)
open_found-Unasked m pid path None = search (tt, does-Unasked)
open_found-Unasked m pid path (Some file) = search (tt, does-Unasked, unless_refused-Unasked)

open_new-Unasked : (m : Machine) (pid : ℕ) (path : List ℕ) → Unasked m (open_new m pid path)
open_new-Unasked m pid path = search (tt, does-Unasked, unless_refused-Unasked)

open-Unasked : (m : Machine) (pid : ℕ) (v : View) → Unasked m (open_row m pid v)
open-Unasked m pid v =
    let path = path_of v (argument v.body.cpu 0) (argument v.body.cpu 1) in
    let found = open_found-Unasked m pid path (find_file m.kernel.files path) in
    let new = open_new-Unasked m pid path in
    search (found, new, if-Unasked, unless_refused-Unasked)

unlink_found-Unasked : (m : Machine) (path : List ℕ) (o : Option ℕ) → Unasked m (unlink_found m path o)
unlink_found-Unasked m path None = search (tt, does-Unasked)
unlink_found-Unasked m path (Some file) = search (tt, does-Unasked)

seek_in-Unasked : (m : Machine) (d position : ℕ) (what : Description) → Unasked m (seek_in m d position what)
seek_in-Unasked m d position (description.File file old) = search (tt, does-Unasked, unless_refused-Unasked)
seek_in-Unasked m d position other = search (tt, does-Unasked)

seek_what-Unasked : (m : Machine) (d position : ℕ) (o : Option Description) → Unasked m (seek_what m d position o)
seek_what-Unasked m d position None = search (tt, does-Unasked)
seek_what-Unasked m d position (Some what) = seek_in-Unasked m d position what

seek_opened-Unasked : (m : Machine) (position : ℕ) (o : Option ℕ) → Unasked m (seek_opened m position o)
seek_opened-Unasked m position None = search (tt, does-Unasked)
seek_opened-Unasked m position (Some d) = seek_what-Unasked m d position (what_is m.kernel d)

close_opened-Unasked : (m : Machine) (pid fd : ℕ) (o : Option ℕ) → Unasked m (close_opened m pid fd o)
close_opened-Unasked m pid fd None = search (tt, does-Unasked)
close_opened-Unasked m pid fd (Some d) = search (tt, does-Unasked)

dup_opened-Unasked : (m : Machine) (pid : ℕ) (o : Option ℕ) → Unasked m (dup_opened m pid o)
dup_opened-Unasked m pid None = search (tt, does-Unasked)
dup_opened-Unasked m pid (Some d) = search (tt, does-Unasked, unless_refused-Unasked)

-- calls that move bytes
if_moving-Unasked : (m : Machine) (v : View) (at count : ℕ) (goes_on : Request) → Unasked m goes_on → Unasked m (if_moving m v at count goes_on)
if_moving-Unasked m v at count goes_on is = search (is, tt, does-Unasked, if-Unasked, unless_refused-Unasked)

received-Unasked : (m : Machine) (at : ℕ) (first : KernelByte) (held : List TaggedByte) (k : Kernel) → Unasked m (received m at first held k)
received-Unasked m at first [] k = search (tt, does-Unasked)
received-Unasked m at first (b ∷ held) k = search (tt, does-Unasked)

read_console-Unasked : (m : Machine) (at : ℕ) (held : List TaggedByte) → Unasked m (read_console m at held)
read_console-Unasked m at [] = waits-Unasked m
read_console-Unasked m at (b ∷ held) = search (tt, does-Unasked)

read_empty-Unasked : (m : Machine) (b : Bool) → Unasked m (read_empty m b)
read_empty-Unasked m true = waits-Unasked m
read_empty-Unasked m false = search (tt, does-Unasked)

read_queue-Unasked : (m : Machine) (pipe at : ℕ) (p : Pipe) (held : List TaggedByte) → Unasked m (read_queue m pipe at p held)
read_queue-Unasked m pipe at p [] = read_empty-Unasked m p.has_writer
read_queue-Unasked m pipe at p (b ∷ held) = search (tt, does-Unasked)

read_pipe-Unasked : (m : Machine) (pipe at most : ℕ) (o : Option Pipe) → Unasked m (read_pipe m pipe at most o)
read_pipe-Unasked m pipe at most None = search (tt, does-Unasked)
read_pipe-Unasked m pipe at most (Some p) = read_queue-Unasked m pipe at p (front p.channel most)

-- the questions
there-Unasked : (m : Machine) (question : Question) (b : Bool) → was_unplugged m.kernel (device_of question) ≡ b → Unasked m (cond b (Does (absent m.kernel)) (Asks question))
there-Unasked m question true is = search (tt, does-Unasked)
there-Unasked m question false is = asks-Unasked m question is

here-Unasked : (m : Machine) (device : ℕ) → Unasked m (unless_unplugged m device (Here device))
here-Unasked m device = there-Unasked m (Here device) (was_unplugged m.kernel device) refl

reads-Unasked : (m : Machine) (device at len : ℕ) → Unasked m (unless_unplugged m device (Reads device at len))
reads-Unasked m device at len = there-Unasked m (Reads device at len) (was_unplugged m.kernel device) refl

writes-Unasked : (m : Machine) (device at len : ℕ) → Unasked m (unless_unplugged m device (Writes device at len))
writes-Unasked m device at len = there-Unasked m (Writes device at len) (was_unplugged m.kernel device) refl

read_from_what-Unasked : (m : Machine) (v : View) (d at count : ℕ) (what : Description) → Unasked m (read_from_what m v d at count what)
read_from_what-Unasked m v d at count what = grind (arith, common_steps, nat_tests, read_console-Unasked, if_moving-Unasked, received-Unasked, read_pipe-Unasked, reads-Unasked, does-Unasked)

read_what-Unasked : (m : Machine) (v : View) (d at count : ℕ) (o : Option Description) → Unasked m (read_what m v d at count o)
read_what-Unasked m v d at count None = search (tt, does-Unasked)
read_what-Unasked m v d at count (Some what) = read_from_what-Unasked m v d at count what

read_opened-Unasked : (m : Machine) (v : View) (at count : ℕ) (o : Option ℕ) → Unasked m (read_opened m v at count o)
read_opened-Unasked m v at count None = search (tt, does-Unasked)
read_opened-Unasked m v at count (Some d) = read_what-Unasked m v d at count (what_is m.kernel d)

write_room-Unasked : (m : Machine) (pipe at : ℕ) (p : Pipe) (bytes : List ℕ) → Unasked m (write_room m pipe at p bytes)
write_room-Unasked m pipe at p bytes = search (waits-Unasked, tt, does-Unasked, if-Unasked, unless_refused-Unasked)

write_pipe-Unasked : (m : Machine) (pipe at : ℕ) (bytes : List ℕ) (o : Option Pipe) → Unasked m (write_pipe m pipe at bytes o)
write_pipe-Unasked m pipe at bytes None = search (tt, does-Unasked)
write_pipe-Unasked m pipe at bytes (Some p) = write_room-Unasked m pipe at p bytes

write_to_what-Unasked : (m : Machine) (v : View) (d at count : ℕ) (what : Description) → Unasked m (write_to_what m v d at count what)
write_to_what-Unasked m v d at count what = grind (arith, nat_tests, does-Unasked, if_moving-Unasked, unless_refused-Unasked, writes-Unasked, write_pipe-Unasked)

write_what-Unasked : (m : Machine) (v : View) (d at count : ℕ) (o : Option Description) → Unasked m (write_what m v d at count o)
write_what-Unasked m v d at count None = search (tt, does-Unasked)
write_what-Unasked m v d at count (Some what) = write_to_what-Unasked m v d at count what

write_opened-Unasked : (m : Machine) (v : View) (at count : ℕ) (o : Option ℕ) → Unasked m (write_opened m v at count o)
write_opened-Unasked m v at count None = search (tt, does-Unasked)
write_opened-Unasked m v at count (Some d) = write_what-Unasked m v d at count (what_is m.kernel d)

-- calls that make channels
accept_conn-Unasked : (m : Machine) (pid port : ℕ) (o : Option Conn) → Unasked m (accept_conn m pid port o)
accept_conn-Unasked m pid port None = waits-Unasked m
accept_conn-Unasked m pid port (Some conn) = search (tt, does-Unasked)

accept_at-Unasked : (m : Machine) (pid : ℕ) (o : Option Description) → Unasked m (accept_at m pid o)
accept_at-Unasked m pid o = grind (arith, nat_tests, accept_conn-Unasked, does-Unasked, unless_refused-Unasked)

device-Unasked : (m : Machine) (pid : ℕ) (v : View) → Unasked m (device_row m pid v)
device-Unasked m pid v = search (tt, does-Unasked, here-Unasked, if-Unasked, unless_refused-Unasked)

row-Unasked : (n : ℕ) (m : Machine) (pid : ℕ) (v : View) → Unasked m (row n m pid v)
unfolding row
row-Unasked n m pid v =
    if-Unasked m (n == EXIT) _ _ (search (tt, does-Unasked))
    (if-Unasked m (n == FORK) _ _ (fork-Unasked m pid v)
    (if-Unasked m (n == EXEC) _ _ (search (exec_file-Unasked, unless_refused-Unasked))
    (if-Unasked m (n == WAIT) _ _ (search (wait_child-Unasked, unless_refused-Unasked))
    (if-Unasked m (n == GETPID) _ _ (search (tt, does-Unasked))
    (if-Unasked m (n == KILL) _ _ (search (tt, does-Unasked, unless_refused-Unasked))
    (if-Unasked m (n == SIGACTION) _ _ (search (tt, does-Unasked, unless_refused-Unasked))
    (if-Unasked m (n == SIGRETURN) _ _ (search (tt, does-Unasked, unless_refused-Unasked))
    (if-Unasked m (n == OPEN) _ _ (open-Unasked m pid v)
    (if-Unasked m (n == CLOSE) _ _ (close_opened-Unasked m pid (argument v.body.cpu 0) (description_of m.kernel pid (argument v.body.cpu 0)))
    (if-Unasked m (n == READ) _ _ (read_opened-Unasked m v (argument v.body.cpu 1) (argument v.body.cpu 2) (description_of m.kernel pid (argument v.body.cpu 0)))
    (if-Unasked m (n == WRITE) _ _ (write_opened-Unasked m v (argument v.body.cpu 1) (argument v.body.cpu 2) (description_of m.kernel pid (argument v.body.cpu 0)))
    (if-Unasked m (n == SEEK) _ _ (seek_opened-Unasked m (argument v.body.cpu 1) (description_of m.kernel pid (argument v.body.cpu 0)))
    (if-Unasked m (n == DUP) _ _ (dup_opened-Unasked m pid (description_of m.kernel pid (argument v.body.cpu 0)))
    (if-Unasked m (n == PIPE) _ _ (search (tt, does-Unasked, unless_refused-Unasked))
    (if-Unasked m (n == UNLINK) _ _ (search (unlink_found-Unasked, unless_refused-Unasked))
    (if-Unasked m (n == SHM) _ _ (search (tt, does-Unasked, unless_refused-Unasked))
    (if-Unasked m (n == LISTEN) _ _ (search (tt, does-Unasked, unless_refused-Unasked))
    (if-Unasked m (n == CONNECT) _ _ (search (tt, does-Unasked, unless_refused-Unasked))
    (if-Unasked m (n == ACCEPT) _ _ (accept_at-Unasked m pid (opened m.kernel pid (argument v.body.cpu 0)))
    (if-Unasked m (n == DEVICE) _ _ (device-Unasked m pid v)
    (if-Unasked m (n == YIELD) _ _ (search (tt, does-Unasked)) (search (tt, does-Unasked)))))))))))))))))))))))

pub request-Unasked : (m : Machine) (pid : ℕ) (v : View) → Unasked m (request m pid v)
request-Unasked m pid v =
    let n = call_number v.body.cpu in
    if-Unasked m (is_built n) _ _ (row-Unasked n m pid v) (refused-Unasked m NO_SUCH_CALL m.kernel)

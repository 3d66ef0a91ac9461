-- What every row comes to, told by one walk over the table of calls.
use Rattle.std.proofs.lemmas.Grind.{common_steps}
use Rattle.std.proofs.Common.{◌≡◌, ℕ, ◌≤◌, ◌==◌, Bool, true, false, cond, List, [], ◌∷◌, Option, None, Some, refl, subst, arith}
use Rattle.std.proofs.lemmas.Bool.Decides.{nat_tests}
use Rattle.arn_base.specs.declared.records.Extra.{Extra}
use Rattle.arn_base.specs.declared.records.Extra.TheVariants as extra
use Rattle.parts_model.specs.declared.calls.TheConstants.{EXIT, FORK, EXEC, WAIT, GETPID, KILL, SIGACTION, SIGRETURN, OPEN, CLOSE, READ, WRITE, SEEK, DUP, PIPE, UNLINK, SHM, LISTEN, CONNECT, ACCEPT, DEVICE, YIELD}
use Rattle.parts_model.specs.declared.limits.TheConstants.{MOST_TRANSFER}
use Rattle.parts_model.specs.declared.open.Conn.{Conn}
use Rattle.parts_model.specs.declared.open.Description.{Description}
use Rattle.parts_model.specs.declared.open.Description.TheVariants as description
use Rattle.parts_model.specs.declared.refusals.TheConstants.{NO_PROCESS_ROOM, NO_SUCH_CALL}
use Rattle.parts_model.specs.declared.tagged.TaggedByte.{TaggedByte}
use Rattle.parts_model.specs.Channel.{front}
use Rattle.parts_model.specs.Files.{find_file, file_bytes}
use Rattle.parts_model.specs.Image.{is_image}
use Rattle.parts_model.specs.Pipes.{Pipe}
use Rattle.parts_model.specs.Processes as table
use Rattle.parts_model.specs.Processes.{Processes}
use Rattle.parts_model.specs.Replies as replies
use Rattle.parts_model.specs.Replies.{Answered, ReadReply, WriteReply}
use Rattle.parts_model.specs.Tagged.{values}
use Rattle.acts_model.specs.Bodies.{View}
use Rattle.acts_model.specs.Moved.{KernelByte}
use Rattle.acts_model.specs.Views.{argument, call_number}
use Rattle.arn_model.specs.ChannelCalls.{device_opened, accept_at, accept_conn, device_row}
use Rattle.arn_model.specs.Doing.{Doing, Question, Here, Reads, Writes, Request, Waits, Does, Asks, Refusal, refused, unless_refused}
use Rattle.arn_model.specs.FileCalls.{open_row, open_found, open_new, unlink_found, seek_in, seek_what, seek_opened, close_opened, dup_opened}
use Rattle.arn_model.specs.Kernel.{Kernel, Machine, description_of, what_is, opened, placed, opens, closes, ended, forked}
use Rattle.arn_model.specs.Paths.{path_of}
use Rattle.arn_model.specs.ProcessCalls.{child_extra, fork_row, exec_file, exec_bytes, wait_child, wait_status}
use Rattle.arn_model.specs.Row.{row, request, is_built, answered, does}
use Rattle.arn_model.specs.TransferCalls.{cut, device_read, device_write, if_moving, read_opened, read_what, read_from_what, read_console, received, read_pipe, read_queue, read_empty, unless_unplugged, write_opened, write_what, write_to_what, write_pipe, write_room}

-- what a kernel's change of the table of processes leaves, in a call of this number
pub record Keeps (n : ℕ) (P : Processes → Type 0) : Type 0 where
  pub after_placed : (pid d : ℕ) (k : Kernel) → P k.processes → P (placed pid d k).processes
  pub after_opens : (pid : ℕ) (what : Description) (k : Kernel) → P k.processes → P (opens pid what k).processes
  pub after_closes : (pid fd d : ℕ) (k : Kernel) → P k.processes → P (closes pid fd d k).processes
  pub after_ended : (pid : ℕ) (status : TaggedByte) (k : Kernel) → P k.processes → P (ended pid status k).processes
  pub after_reaped : (pid : ℕ) (k : Kernel) → P k.processes → P (table.reaped k.processes pid)
  pub after_fork : (n == FORK) ≡ true → (pid : ℕ) (k : Kernel) → P k.processes → P (forked pid k).processes

-- only a fork says how a child begins
abbrev pub StartsByFork : ℕ → Extra → Type 0
StartsByFork n (extra.Start start) = (n == FORK) ≡ true
StartsByFork n more = Unit {0}

abbrev pub Kept : ℕ → (Processes → Type 0) → Doing → Type 0
Kept n P d = P d.kernel.processes × StartsByFork n d.extra

-- a question of the call of this number, about few bytes
unfoldable pub FineQuestion : ℕ → Question → Type 0
FineQuestion n (Here device) = (n == DEVICE) ≡ true
FineQuestion n (Reads device at len) = len ≤ MOST_TRANSFER
FineQuestion n (Writes device at len) = len ≤ MOST_TRANSFER

unfoldable pub Fine : ℕ → (Processes → Type 0) → Request → Type 0
Fine n P Waits = Unit {0}
Fine n P (Does d) = Kept n P d
Fine n P (Asks question) = FineQuestion n question

module _ (n : ℕ) (P : Processes → Type 0) (keeps : Keeps n P) where
  if-Fine : (b : Bool) (x y : Request) → Fine n P x → Fine n P y → Fine n P (cond b x y)
  if-Fine true x y is is' = is
  if-Fine false x y is is' = is'

  -- a request by a test of the call's number
  where-Fine : (b : Bool) (x y : Request) → (b ≡ true → Fine n P x) → Fine n P y → Fine n P (cond b x y)
  where-Fine true x y is is' = is refl
  where-Fine false x y is is' = is'

  waits-Fine : Fine n P Waits
  unfolding Fine
  waits-Fine = tt

  does-Fine : (d : Doing) → P d.kernel.processes → StartsByFork n d.extra → Fine n P (Does d)
  unfolding Fine
  does-Fine d few starts = (few, starts)

  asks-Fine : (question : Question) → FineQuestion n question → Fine n P (Asks question)
  unfolding Fine
  asks-Fine question is = is

  refused-Fine : (number : ℕ) (k : Kernel) → P k.processes → Fine n P (refused number k)
  unfolding Fine
  refused-Fine number k few = (few, tt)

  unless_refused-Fine : (k : Kernel) (refusals : List Refusal) (goes_on : Request) → P k.processes → Fine n P goes_on → Fine n P (unless_refused k refusals goes_on)
  unless_refused-Fine k [] goes_on few is = is
  unless_refused-Fine k (r ∷ refusals) goes_on few is =
      if-Fine r.applies (refused r.number k) (unless_refused k refusals goes_on) (refused-Fine r.number k few) (unless_refused-Fine k refusals goes_on few is)

  -- calls on processes
  child-starts : (n == FORK) ≡ true → (segment : Option ℕ) (v : View) → StartsByFork n (child_extra segment v)
  child-starts fork None v = fork
  child-starts fork (Some made) v = tt

  fork-Fine : (m : Machine) (pid : ℕ) (v : View) → P m.kernel.processes → (n == FORK) ≡ true → Fine n P (fork_row m pid v)
  fork-Fine m pid v few fork =
      if-Fine (table.is_full m.kernel.processes) _ _ (refused-Fine NO_PROCESS_ROOM m.kernel few) (does-Fine _ (keeps.after_fork fork pid m.kernel few) (child-starts fork v.body.segment v))

  exec_bytes-Fine : (m : Machine) (pid : ℕ) (v : View) (file : ℕ) (o : Option (List TaggedByte)) → P m.kernel.processes → Fine n P (exec_bytes m pid v file o)
  exec_bytes-Fine m pid v file None few = search (few, tt, does-Fine)
  exec_bytes-Fine m pid v file (Some held) few = if-Fine (is_image (values held)) _ _ (search (few, tt, does-Fine)) (search (few, tt, does-Fine))

  exec_file-Fine : (m : Machine) (pid : ℕ) (v : View) (o : Option ℕ) → P m.kernel.processes → Fine n P (exec_file m pid v o)
  exec_file-Fine m pid v None few = search (few, tt, does-Fine)
  exec_file-Fine m pid v (Some file) few = exec_bytes-Fine m pid v file (file_bytes m.kernel.files file) few

  wait_status-Fine : (m : Machine) (v : View) (child : ℕ) (o : Option TaggedByte) → P m.kernel.processes → Fine n P (wait_status m v child o)
  wait_status-Fine m v child None few = waits-Fine
  wait_status-Fine m v child (Some status) few = search (few, keeps.after_reaped, tt, does-Fine)

  wait_child-Fine : (m : Machine) (v : View) (pids : List ℕ) → P m.kernel.processes → Fine n P (wait_child m v pids)
  wait_child-Fine m v [] few = waits-Fine
  wait_child-Fine m v (child ∷ more) few = wait_status-Fine m v child (table.status_of m.kernel.processes child) few

  -- calls on names and descriptors
  open_found-Fine : (m : Machine) (pid : ℕ) (path : List ℕ) (o : Option ℕ) → P m.kernel.processes → Fine n P (open_found m pid path o)
  open_found-Fine m pid path None few = search (few, tt, does-Fine)
  open_found-Fine m pid path (Some file) few = search (few, keeps.after_opens, tt, does-Fine, unless_refused-Fine)

  open_new-Fine : (m : Machine) (pid : ℕ) (path : List ℕ) → P m.kernel.processes → Fine n P (open_new m pid path)
  open_new-Fine m pid path few = search (few, keeps.after_opens, tt, does-Fine, unless_refused-Fine)

  open-Fine : (m : Machine) (pid : ℕ) (v : View) → P m.kernel.processes → Fine n P (open_row m pid v)
  open-Fine m pid v few =
      let path = path_of v (argument v.body.cpu 0) (argument v.body.cpu 1) in
      let found = open_found-Fine m pid path (find_file m.kernel.files path) few in
      let new = open_new-Fine m pid path few in
      search (few, found, new, if-Fine, unless_refused-Fine)

  unlink_found-Fine : (m : Machine) (path : List ℕ) (o : Option ℕ) → P m.kernel.processes → Fine n P (unlink_found m path o)
  unlink_found-Fine m path None few = search (few, tt, does-Fine)
  unlink_found-Fine m path (Some file) few = search (few, tt, does-Fine)

  seek_in-Fine : (m : Machine) (d position : ℕ) (what : Description) → P m.kernel.processes → Fine n P (seek_in m d position what)
  seek_in-Fine m d position (description.File file old) few = search (few, tt, does-Fine, unless_refused-Fine)
  seek_in-Fine m d position other few = search (few, tt, does-Fine)

  seek_what-Fine : (m : Machine) (d position : ℕ) (o : Option Description) → P m.kernel.processes → Fine n P (seek_what m d position o)
  seek_what-Fine m d position None few = search (few, tt, does-Fine)
  seek_what-Fine m d position (Some what) few = seek_in-Fine m d position what few

  seek_opened-Fine : (m : Machine) (position : ℕ) (o : Option ℕ) → P m.kernel.processes → Fine n P (seek_opened m position o)
  seek_opened-Fine m position None few = search (few, tt, does-Fine)
  seek_opened-Fine m position (Some d) few = seek_what-Fine m d position (what_is m.kernel d) few

  close_opened-Fine : (m : Machine) (pid fd : ℕ) (o : Option ℕ) → P m.kernel.processes → Fine n P (close_opened m pid fd o)
  close_opened-Fine m pid fd None few = search (few, tt, does-Fine)
  close_opened-Fine m pid fd (Some d) few = search (few, keeps.after_closes, tt, does-Fine)

  dup_opened-Fine : (m : Machine) (pid : ℕ) (o : Option ℕ) → P m.kernel.processes → Fine n P (dup_opened m pid o)
  dup_opened-Fine m pid None few = search (few, tt, does-Fine)
  dup_opened-Fine m pid (Some d) few = search (few, keeps.after_placed, tt, does-Fine, unless_refused-Fine)

  -- no more than one call moves
  cut-few : (count : ℕ) → cut count ≤ MOST_TRANSFER
  cut-few count = omega arith

  -- calls that move bytes
  if_moving-Fine : (m : Machine) (v : View) (at count : ℕ) (goes_on : Request) → P m.kernel.processes → Fine n P goes_on → Fine n P (if_moving m v at count goes_on)
  if_moving-Fine m v at count goes_on few is = search (few, is, tt, does-Fine, if-Fine, unless_refused-Fine)

  received-Fine : (m : Machine) (at : ℕ) (first : KernelByte) (held : List TaggedByte) (k : Kernel) → P m.kernel.processes → P k.processes → Fine n P (received m at first held k)
  received-Fine m at first [] k few few' = search (few, tt, does-Fine)
  received-Fine m at first (b ∷ held) k few few' = search (few', tt, does-Fine)

  read_console-Fine : (m : Machine) (at : ℕ) (held : List TaggedByte) → P m.kernel.processes → Fine n P (read_console m at held)
  read_console-Fine m at [] few = waits-Fine
  read_console-Fine m at (b ∷ held) few = search (few, tt, does-Fine)

  read_empty-Fine : (m : Machine) (b : Bool) → P m.kernel.processes → Fine n P (read_empty m b)
  read_empty-Fine m true few = waits-Fine
  read_empty-Fine m false few = search (few, tt, does-Fine)

  read_queue-Fine : (m : Machine) (pipe at : ℕ) (p : Pipe) (held : List TaggedByte) → P m.kernel.processes → Fine n P (read_queue m pipe at p held)
  read_queue-Fine m pipe at p [] few = read_empty-Fine m p.has_writer few
  read_queue-Fine m pipe at p (b ∷ held) few = search (few, tt, does-Fine)

  read_pipe-Fine : (m : Machine) (pipe at most : ℕ) (o : Option Pipe) → P m.kernel.processes → Fine n P (read_pipe m pipe at most o)
  read_pipe-Fine m pipe at most None few = search (few, tt, does-Fine)
  read_pipe-Fine m pipe at most (Some p) few = read_queue-Fine m pipe at p (front p.channel most) few

  unless_unplugged-Fine : (m : Machine) (device : ℕ) (question : Question) → FineQuestion n question → P m.kernel.processes → Fine n P (unless_unplugged m device question)
  unless_unplugged-Fine m device question is few = search (few, is, tt, does-Fine, asks-Fine, if-Fine)

  read_from_what-Fine : (m : Machine) (v : View) (d at count : ℕ) (what : Description) → P m.kernel.processes → Fine n P (read_from_what m v d at count what)
  unfolding FineQuestion
  read_from_what-Fine m v d at count what h1 = grind (arith, common_steps, nat_tests, read_console-Fine, if_moving-Fine, received-Fine, read_pipe-Fine, unless_unplugged-Fine, cut-few, does-Fine)

  read_what-Fine : (m : Machine) (v : View) (d at count : ℕ) (o : Option Description) → P m.kernel.processes → Fine n P (read_what m v d at count o)
  read_what-Fine m v d at count None few = search (few, tt, does-Fine)
  read_what-Fine m v d at count (Some what) few = read_from_what-Fine m v d at count what few

  read_opened-Fine : (m : Machine) (v : View) (at count : ℕ) (o : Option ℕ) → P m.kernel.processes → Fine n P (read_opened m v at count o)
  read_opened-Fine m v at count None few = search (few, tt, does-Fine)
  read_opened-Fine m v at count (Some d) few = read_what-Fine m v d at count (what_is m.kernel d) few

  write_room-Fine : (m : Machine) (pipe at : ℕ) (p : Pipe) (bytes : List ℕ) → P m.kernel.processes → Fine n P (write_room m pipe at p bytes)
  write_room-Fine m pipe at p bytes few = search (few, waits-Fine, tt, does-Fine, if-Fine, unless_refused-Fine)

  write_pipe-Fine : (m : Machine) (pipe at : ℕ) (bytes : List ℕ) (o : Option Pipe) → P m.kernel.processes → Fine n P (write_pipe m pipe at bytes o)
  write_pipe-Fine m pipe at bytes None few = search (few, tt, does-Fine)
  write_pipe-Fine m pipe at bytes (Some p) few = write_room-Fine m pipe at p bytes few

  write_to_what-Fine : (m : Machine) (v : View) (d at count : ℕ) (what : Description) → P m.kernel.processes → Fine n P (write_to_what m v d at count what)
  unfolding FineQuestion
  write_to_what-Fine m v d at count what h1 = grind (arith, nat_tests, cut-few, does-Fine, if_moving-Fine, unless_refused-Fine, unless_unplugged-Fine, write_pipe-Fine)

  write_what-Fine : (m : Machine) (v : View) (d at count : ℕ) (o : Option Description) → P m.kernel.processes → Fine n P (write_what m v d at count o)
  write_what-Fine m v d at count None few = search (few, tt, does-Fine)
  write_what-Fine m v d at count (Some what) few = write_to_what-Fine m v d at count what few

  write_opened-Fine : (m : Machine) (v : View) (at count : ℕ) (o : Option ℕ) → P m.kernel.processes → Fine n P (write_opened m v at count o)
  write_opened-Fine m v at count None few = search (few, tt, does-Fine)
  write_opened-Fine m v at count (Some d) few = write_what-Fine m v d at count (what_is m.kernel d) few

  -- calls that make channels
  accept_conn-Fine : (m : Machine) (pid port : ℕ) (o : Option Conn) → P m.kernel.processes → Fine n P (accept_conn m pid port o)
  accept_conn-Fine m pid port None few = waits-Fine
  accept_conn-Fine m pid port (Some conn) few = search (few, keeps.after_opens, tt, does-Fine)

  accept_at-Fine : (m : Machine) (pid : ℕ) (o : Option Description) → P m.kernel.processes → Fine n P (accept_at m pid o)
  accept_at-Fine m pid o h1 = grind (arith, nat_tests, accept_conn-Fine, does-Fine, unless_refused-Fine)

  device-Fine : (m : Machine) (pid : ℕ) (v : View) → P m.kernel.processes → (n == DEVICE) ≡ true → Fine n P (device_row m pid v)
  unfolding FineQuestion
  device-Fine m pid v few is = search (few, is, tt, does-Fine, unless_unplugged-Fine, if-Fine, unless_refused-Fine)

  pub row-Fine : (m : Machine) (pid : ℕ) (v : View) → P m.kernel.processes → Fine n P (row n m pid v)
  unfolding row
  row-Fine m pid v few =
      if-Fine (n == EXIT) _ _ (search (few, keeps.after_ended, tt, does-Fine))
      (where-Fine (n == FORK) _ _ (fork-Fine m pid v few)
      (if-Fine (n == EXEC) _ _ (search (few, exec_file-Fine, unless_refused-Fine))
      (if-Fine (n == WAIT) _ _ (search (few, wait_child-Fine, unless_refused-Fine))
      (if-Fine (n == GETPID) _ _ (search (few, tt, does-Fine))
      (if-Fine (n == KILL) _ _ (search (few, tt, does-Fine, unless_refused-Fine))
      (if-Fine (n == SIGACTION) _ _ (search (few, tt, does-Fine, unless_refused-Fine))
      (if-Fine (n == SIGRETURN) _ _ (search (few, tt, does-Fine, unless_refused-Fine))
      (if-Fine (n == OPEN) _ _ (open-Fine m pid v few)
      (if-Fine (n == CLOSE) _ _ (close_opened-Fine m pid (argument v.body.cpu 0) (description_of m.kernel pid (argument v.body.cpu 0)) few)
      (if-Fine (n == READ) _ _ (read_opened-Fine m v (argument v.body.cpu 1) (argument v.body.cpu 2) (description_of m.kernel pid (argument v.body.cpu 0)) few)
      (if-Fine (n == WRITE) _ _ (write_opened-Fine m v (argument v.body.cpu 1) (argument v.body.cpu 2) (description_of m.kernel pid (argument v.body.cpu 0)) few)
      (if-Fine (n == SEEK) _ _ (seek_opened-Fine m (argument v.body.cpu 1) (description_of m.kernel pid (argument v.body.cpu 0)) few)
      (if-Fine (n == DUP) _ _ (dup_opened-Fine m pid (description_of m.kernel pid (argument v.body.cpu 0)) few)
      (if-Fine (n == PIPE) _ _ (search (few, keeps.after_opens, tt, does-Fine, unless_refused-Fine))
      (if-Fine (n == UNLINK) _ _ (search (few, unlink_found-Fine, unless_refused-Fine))
      (if-Fine (n == SHM) _ _ (search (few, tt, does-Fine, unless_refused-Fine))
      (if-Fine (n == LISTEN) _ _ (search (few, keeps.after_opens, tt, does-Fine, unless_refused-Fine))
      (if-Fine (n == CONNECT) _ _ (search (few, keeps.after_opens, tt, does-Fine, unless_refused-Fine))
      (if-Fine (n == ACCEPT) _ _ (accept_at-Fine m pid (opened m.kernel pid (argument v.body.cpu 0)) few)
      (where-Fine (n == DEVICE) _ _ (device-Fine m pid v few)
      (if-Fine (n == YIELD) _ _ (search (few, tt, does-Fine)) (search (few, tt, does-Fine)))))))))))))))))))))))

  -- what is done, by any reply
  opened-Kept : (m : Machine) (pid device : ℕ) (b : Bool) → P m.kernel.processes → Kept n P (device_opened m pid device b)
  opened-Kept m pid device true few = (keeps.after_opens pid (description.Device device) m.kernel few, tt)
  opened-Kept m pid device false few = (few, tt)

  read-Kept : (m : Machine) (device at : ℕ) (reply : ReadReply) → P m.kernel.processes → Kept n P (device_read m device at reply)
  read-Kept m device at (replies.Reads bytes) few = (few, tt)
  read-Kept m device at other few = (few, tt)

  write-Kept : (m : Machine) (device at : ℕ) (bytes : List ℕ) (reply : WriteReply) → P m.kernel.processes → Kept n P (device_write m device at bytes reply)
  write-Kept m device at bytes (replies.Takes count) few = (few, tt)
  write-Kept m device at bytes other few = (few, tt)

  pub answered-Kept : (m : Machine) (pid : ℕ) (v : View) (question : Question) (reply : Option Answered) → P m.kernel.processes → Kept n P (answered m pid v question reply)
  unfolding answered
  answered-Kept m pid v question reply h1 = grind (arith, nat_tests, opened-Kept, read-Kept, write-Kept)

  pub done-Kept : (m : Machine) (pid : ℕ) (v : View) (reply : Option Answered) (r : Request) → Fine n P r → P m.kernel.processes → (d : Doing) → does m pid v reply r ≡ Some d → Kept n P d
  unfolding Fine
  done-Kept m pid v reply Waits fine few d e = absurd cc
  done-Kept m pid v reply (Does x) fine few d e = subst (Kept n P) (let same : x ≡ d = cc in same) fine
  done-Kept m pid v reply (Asks question) fine few d e = subst (Kept n P) (let same : answered m pid v question reply ≡ d = cc in same) (answered-Kept m pid v question reply few)

pub request-Fine : (m : Machine) (pid : ℕ) (v : View) (P : Processes → Type 0) → Keeps (call_number v.body.cpu) P → P m.kernel.processes → Fine (call_number v.body.cpu) P (request m pid v)
request-Fine m pid v P keeps few =
    let n = call_number v.body.cpu in
    if-Fine n P keeps (is_built n) _ _ (row-Fine n P keeps m pid v few) (refused-Fine n P keeps NO_SUCH_CALL m.kernel few)

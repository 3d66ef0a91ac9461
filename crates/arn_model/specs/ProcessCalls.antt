-- The calls on processes: exit, fork, exec, wait, getpid, yield.
use Rattle.std.specs.Prelude.{ℕ, ◌%◌, nat_lt, ◌&&◌, ◌||◌, not, Bool, if◌then◌else◌, List, [], ◌∷◌, length, Option, Some, None}
use Rattle.arn_base.specs.declared.records.Extra.{Extra}
use Rattle.arn_base.specs.declared.records.Extra.TheVariants as extra
use Rattle.parts_model.specs.declared.limits.TheConstants.{MOST_BLOCK_BYTES}
use Rattle.parts_model.specs.declared.refusals.TheConstants.{NO_FILE, NOT_IMAGE, NO_CHILD, NO_PROCESS_ROOM, BAD_ADDRESS, BAD_ARGUMENT}
use Rattle.parts_model.specs.declared.tagged.TaggedByte.{TaggedByte}
use Rattle.parts_model.specs.Files.{find_file, file_bytes}
use Rattle.parts_model.specs.Image.{is_image}
use Rattle.parts_model.specs.Processes as table
use Rattle.parts_model.specs.Signals.{no_handlers}
use Rattle.parts_model.specs.Tagged.{values, given}
use Rattle.acts_model.specs.Acts.{Act, Receives, Starts, Forks, Founds, Exits, beginning_of, start_of}
use Rattle.acts_model.specs.Bodies.{View}
use Rattle.acts_model.specs.Moved.{Range, Nothing, From, FileByte, StatusByte}
use Rattle.acts_model.specs.Views.{argument, can_reach}
use Rattle.arn_model.specs.Doing.{Doing, Request, Waits, Does, returns, refused, refuse, unless_refused}
use Rattle.arn_model.specs.Kernel.{Machine, status_at, with_handling, ended, forked}
use Rattle.arn_model.specs.Paths.{isnt_path_len, path_of}

-- the status of a process as a byte that the kernel holds
abbrev pub status_of : ℕ → Range
status_of pid = record { first = StatusByte pid; len = 1 }

-- exit(status): the status is taken modulo 256
abbrev pub exit_row : Machine → ℕ → View → Request
exit_row m pid v =
    let status = argument v.body.cpu 0 % 256 in
    Does (record {
      act = Exits;
      extra = extra.Nothing;
      incoming = Nothing;
      outgoing = Some (status_of pid);
      bytes = status ∷ [];
      kernel = ended pid (status_at m.events status) m.kernel;
    })

-- a child joins its parent's group exactly where the parent holds a segment; else it starts one, and the record holds how it begins
abbrev pub child_act : Option ℕ → ℕ → Act
child_act None child = Founds child
child_act (Some segment) child = Forks child

abbrev pub child_extra : Option ℕ → View → Extra
child_extra None v = extra.Start (start_of (beginning_of v))
child_extra (Some segment) v = extra.Nothing

-- fork(): the child's number
abbrev pub fork_row : Machine → ℕ → View → Request
fork_row m pid v =
    unless_refused m.kernel
    (refuse NO_PROCESS_ROOM (table.is_full m.kernel.processes) ∷ [])
    (Does (record {
      act = child_act v.body.segment (table.next_process m.kernel.processes);
      extra = child_extra v.body.segment v;
      incoming = Nothing;
      outgoing = None;
      bytes = [];
      kernel = forked pid m.kernel;
    }))

-- an image is started, with a block from the old window: handlers go, and pending signals stay
abbrev pub exec_doing : Machine → ℕ → View → ℕ → List TaggedByte → Doing
exec_doing m pid v file held =
    record {
      act = Starts (values held) (argument v.body.cpu 2) (argument v.body.cpu 3);
      extra = extra.Give (given held);
      incoming = From (record { first = FileByte file 0; len = length held });
      outgoing = None;
      bytes = values held;
      kernel = with_handling pid (λ h. record h { handlers = no_handlers }) m.kernel;
    }

abbrev pub exec_bytes : Machine → ℕ → View → ℕ → Option (List TaggedByte) → Request
exec_bytes m pid v file None = refused NO_FILE m.kernel
exec_bytes m pid v file (Some held) = if is_image (values held) then Does (exec_doing m pid v file held) else refused NOT_IMAGE m.kernel

abbrev pub exec_file : Machine → ℕ → View → Option ℕ → Request
exec_file m pid v None = refused NO_FILE m.kernel
exec_file m pid v (Some file) = exec_bytes m pid v file (file_bytes m.kernel.files file)

-- exec(path, length, block, block length): a block of length 0 isn't looked at
abbrev pub exec_row : Machine → ℕ → View → Request
exec_row m pid v =
    let path = argument v.body.cpu 0 in
    let len = argument v.body.cpu 1 in
    let block = argument v.body.cpu 2 in
    let block_len = argument v.body.cpu 3 in
    unless_refused m.kernel
    (refuse BAD_ARGUMENT (isnt_path_len len || nat_lt MOST_BLOCK_BYTES block_len)
    ∷ refuse BAD_ADDRESS (not (can_reach v path len))
    ∷ refuse BAD_ADDRESS (nat_lt 0 block_len && not (can_reach v block block_len))
    ∷ [])
    (exec_file m pid v (find_file m.kernel.files (path_of v path len)))

-- the lowest child that has ended is waited for no more, and its status byte is received
abbrev pub wait_status : Machine → View → ℕ → Option TaggedByte → Request
wait_status m v child None = Waits
wait_status m v child (Some status) =
    Does (record {
      act = Receives (argument v.body.cpu 0) (status.value ∷ []) child;
      extra = extra.Give (given (status ∷ []));
      incoming = From (status_of child);
      outgoing = None;
      bytes = status.value ∷ [];
      kernel = record m.kernel { processes = table.reaped m.kernel.processes child };
    })

abbrev pub wait_child : Machine → View → List ℕ → Request
wait_child m v [] = Waits
wait_child m v (child ∷ more) = wait_status m v child (table.status_of m.kernel.processes child)

-- there is none
abbrev pub isnt_any : List ℕ → Bool
isnt_any pids = not (nat_lt 0 (length pids))

-- wait(address): the child's number
abbrev pub wait_row : Machine → ℕ → View → Request
wait_row m pid v =
    unless_refused m.kernel
    (refuse NO_CHILD (isnt_any (table.children m.kernel.processes pid)) ∷ refuse BAD_ADDRESS (not (can_reach v (argument v.body.cpu 0) 1)) ∷ [])
    (wait_child m v (table.ended_children m.kernel.processes pid))

-- getpid(), yield()
abbrev pub getpid_row : Machine → ℕ → View → Request
getpid_row m pid v = returns pid m.kernel

abbrev pub yield_row : Machine → ℕ → View → Request
yield_row m pid v = returns 0 m.kernel

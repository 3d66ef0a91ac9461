-- The table of calls.
use Rattle.std.specs.Prelude.{ℕ, ◌==◌, Bool, true, false, if◌then◌else◌, List, [], ◌∷◌, Option, Some, None}
use Rattle.std.specs.List.{list_any}
use Rattle.parts_model.specs.declared.calls.TheConstants.{EXIT, FORK, EXEC, WAIT, GETPID, KILL, SIGACTION, SIGRETURN, OPEN, CLOSE, READ, WRITE, SEEK, DUP, PIPE, UNLINK, SHM, LISTEN, CONNECT, ACCEPT, DEVICE, YIELD}
use Rattle.parts_model.specs.declared.refusals.TheConstants.{NO_SUCH_CALL}
use Rattle.parts_model.specs.Replies.{Answered, is_here, to_read, to_write}
use Rattle.acts_model.specs.Bodies.{View}
use Rattle.acts_model.specs.Views.{call_number, read}
use Rattle.arn_model.specs.ChannelCalls.{pipe_row, listen_row, connect_row, accept_row, device_row, device_opened}
use Rattle.arn_model.specs.Doing.{Doing, Question, Here, Reads, Writes, Request, Waits, Does, Asks, refused}
use Rattle.arn_model.specs.FileCalls.{open_row, unlink_row, seek_row, close_row, dup_row}
use Rattle.arn_model.specs.Kernel.{Machine}
use Rattle.arn_model.specs.ProcessCalls.{exit_row, fork_row, exec_row, wait_row, getpid_row, yield_row}
use Rattle.arn_model.specs.SignalCalls.{kill_row, sigaction_row, sigreturn_row, shm_row}
use Rattle.arn_model.specs.TransferCalls.{read_row, write_row, device_read, device_write}

-- the row of the call of this number, for a process that sees this
unfoldable pub row : ℕ → Machine → ℕ → View → Request
row n m pid v =
    if n == EXIT then exit_row m pid v
    else if n == FORK then fork_row m pid v
    else if n == EXEC then exec_row m pid v
    else if n == WAIT then wait_row m pid v
    else if n == GETPID then getpid_row m pid v
    else if n == KILL then kill_row m pid v
    else if n == SIGACTION then sigaction_row m pid v
    else if n == SIGRETURN then sigreturn_row m pid v
    else if n == OPEN then open_row m pid v
    else if n == CLOSE then close_row m pid v
    else if n == READ then read_row m pid v
    else if n == WRITE then write_row m pid v
    else if n == SEEK then seek_row m pid v
    else if n == DUP then dup_row m pid v
    else if n == PIPE then pipe_row m pid v
    else if n == UNLINK then unlink_row m pid v
    else if n == SHM then shm_row m pid v
    else if n == LISTEN then listen_row m pid v
    else if n == CONNECT then connect_row m pid v
    else if n == ACCEPT then accept_row m pid v
    else if n == DEVICE then device_row m pid v
    else if n == YIELD then yield_row m pid v
    else refused NO_SUCH_CALL m.kernel

-- what a call does by a device's answer
unfoldable pub answered : Machine → ℕ → View → Question → Option Answered → Doing
answered m pid v (Here device) reply = device_opened m pid device (is_here reply)
answered m pid v (Reads device at len) reply = device_read m device at (to_read len reply)
answered m pid v (Writes device at len) reply = device_write m device at (read v at len) (to_write len reply)

-- the calls that there are. Any other answers that there is no such call
abbrev pub built_calls : List ℕ
built_calls = EXIT ∷ FORK ∷ EXEC ∷ WAIT ∷ GETPID ∷ KILL ∷ SIGACTION ∷ SIGRETURN ∷ OPEN ∷ CLOSE ∷ READ ∷ WRITE ∷ SEEK ∷ DUP ∷ PIPE ∷ UNLINK ∷ SHM ∷ LISTEN ∷ CONNECT ∷ ACCEPT ∷ DEVICE ∷ YIELD ∷ []

abbrev pub is_built : ℕ → Bool
is_built n = list_any (λ b. b == n) built_calls

-- what the call at which a process stands comes to
abbrev pub request : Machine → ℕ → View → Request
request m pid v =
    let n = call_number v.body.cpu in
    if is_built n then row n m pid v else refused NO_SUCH_CALL m.kernel

-- it isn't ready
abbrev pub is_waiting : Request → Bool
is_waiting Waits = true
is_waiting (Does d) = false
is_waiting (Asks question) = false

-- what it does, by a device's answer where it asks one
abbrev pub does : Machine → ℕ → View → Option Answered → Request → Option Doing
does m pid v reply Waits = None
does m pid v reply (Does d) = Some d
does m pid v reply (Asks question) = Some (answered m pid v question reply)

-- The table of calls, by their numbers.
use Rattle.std.specs.Prelude.{◌≡◌, ℕ, false}
use Rattle.parts_model.specs.declared.calls.TheConstants.{ACCEPT, CLOSE, CONNECT, DEVICE, DUP, EXEC, EXIT, FORK, GETPID, KILL, LISTEN, OPEN, PIPE, READ, SEEK, SHM, SIGACTION, SIGRETURN, UNLINK, WAIT, WRITE, YIELD}
use Rattle.acts_model.specs.Bodies.{View}
use Rattle.acts_model.specs.Views.{call_number}
use Rattle.arn_model.specs.ChannelCalls.{accept_row, connect_row, device_row, listen_row, pipe_row}
use Rattle.arn_model.specs.Doing.{Request}
use Rattle.arn_model.specs.FileCalls.{close_row, dup_row, open_row, seek_row, unlink_row}
use Rattle.arn_model.specs.Kernel.{Machine}
use Rattle.arn_model.specs.ProcessCalls.{exec_row, exit_row, fork_row, getpid_row, wait_row, yield_row}
use Rattle.arn_model.specs.Row.{is_waiting, request}
use Rattle.arn_model.specs.SignalCalls.{kill_row, shm_row, sigaction_row, sigreturn_row}
use Rattle.arn_model.specs.TransferCalls.{read_row, write_row}
use Rattle.guest_requests.specs.Standing.{can_wait}

-- a call of this number comes to this
abbrev pub ComesTo : ℕ → (Machine → ℕ → View → Request) → Type 0
ComesTo n one = (m : Machine) (pid : ℕ) (v : View) → call_number v.body.cpu ≡ n → request m pid v ≡ one m pid v

-- each call comes to its row
pub record ComeToRows : Type 0 where
  pub exit : ComesTo EXIT exit_row
  pub fork : ComesTo FORK fork_row
  pub exec : ComesTo EXEC exec_row
  pub wait : ComesTo WAIT wait_row
  pub getpid : ComesTo GETPID getpid_row
  pub kill : ComesTo KILL kill_row
  pub sigaction : ComesTo SIGACTION sigaction_row
  pub sigreturn : ComesTo SIGRETURN sigreturn_row
  pub «open» : ComesTo OPEN open_row
  pub close : ComesTo CLOSE close_row
  pub read : ComesTo READ read_row
  pub write : ComesTo WRITE write_row
  pub seek : ComesTo SEEK seek_row
  pub dup : ComesTo DUP dup_row
  pub pipe : ComesTo PIPE pipe_row
  pub unlink : ComesTo UNLINK unlink_row
  pub shm : ComesTo SHM shm_row
  pub listen : ComesTo LISTEN listen_row
  pub connect : ComesTo CONNECT connect_row
  pub accept : ComesTo ACCEPT accept_row
  pub device : ComesTo DEVICE device_row
  pub yield : ComesTo YIELD yield_row

-- a call of another number than those that may wait doesn't
pub record OthersAreReady : Type 0 where
  pub ready : (m : Machine) (pid : ℕ) (v : View) → can_wait (call_number v.body.cpu) ≡ false → is_waiting (request m pid v) ≡ false

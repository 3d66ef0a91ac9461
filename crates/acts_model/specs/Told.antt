-- What a record tells of an act: all that a group alone knows of it.
use Rattle.std.specs.Prelude.{ℕ, ◌==◌, nat_le, ◌&&◌, Bool, if◌then◌else◌, length, Option, Some, None}
use Rattle.arn_base.specs.declared.machine.Cpu.{Cpu}
use Rattle.arn_base.specs.declared.records.Extra.{Extra}
use Rattle.arn_base.specs.declared.records.Extra.TheVariants as extra
use Rattle.arn_base.specs.declared.records.Record.{Record}
use Rattle.arn_base.specs.declared.records.Record.TheVariants as entry
use Rattle.parts_model.specs.declared.calls.TheConstants as number
use Rattle.parts_model.specs.declared.limits.TheConstants.{MOST_TRANSFER}
use Rattle.parts_model.specs.Replies.{is_success}
use Rattle.acts_model.specs.Acts.{Act, Returns, Receives, Gives, Starts, Forks, Founds, Shares, Leaves, Delivers, Exits, Faults, Dies}
use Rattle.acts_model.specs.Views.{argument}

-- the calls that do more to a body than return
pub data Kind : Type 0 where
  Exit : Kind
  Fork : Kind
  Exec : Kind
  Wait : Kind
  Sigreturn : Kind
  Read : Kind
  Write : Kind
  Shm : Kind
  Other : Kind

abbrev pub kind_of : ℕ → Kind
kind_of n =
    if n == number.EXIT then Exit else if n == number.FORK then Fork else if n == number.EXEC then Exec else if n == number.WAIT then Wait
    else if n == number.SIGRETURN then Sigreturn else if n == number.READ then Read else if n == number.WRITE then Write
    else if n == number.SHM then Shm else Other

-- a fork that succeeds makes a child, which starts a group exactly where the record holds how it begins
abbrev pub fork_act : ℕ → Extra → Act
fork_act result (extra.Start start) = if is_success result then Founds result else Returns result
fork_act result more = if is_success result then Forks result else Returns result

-- an exec succeeds exactly where the record holds the image file's bytes. Its block is named by the third and the fourth argument
abbrev pub exec_act : Cpu → ℕ → Extra → Act
exec_act cpu result (extra.Give give) = Starts give.bytes (argument cpu 2) (argument cpu 3)
exec_act cpu result more = Returns result

-- a wait succeeds exactly where the record holds the status byte, which goes to the first argument
abbrev pub wait_act : Cpu → ℕ → Extra → Act
wait_act cpu result (extra.Give give) = Receives (argument cpu 0) give.bytes result
wait_act cpu result more = Returns result

-- what a read received goes to the second argument
abbrev pub read_act : Cpu → ℕ → Extra → Act
read_act cpu result (extra.Give give) = Receives (argument cpu 1) give.bytes result
read_act cpu result (extra.Reply device bytes) = Receives (argument cpu 1) bytes result
read_act cpu result more = Returns result

-- a write to a pipe holds no bytes: its result counts them
abbrev pub is_pipe_write : ℕ → Bool
is_pipe_write result = nat_le 1 result && nat_le result MOST_TRANSFER

-- what a write gave stands at the second argument
abbrev pub write_act : Cpu → ℕ → Extra → Act
write_act cpu result (extra.Put file at bytes) = Gives (argument cpu 1) (length bytes) result
write_act cpu result (extra.Console bytes) = Gives (argument cpu 1) (length bytes) result
write_act cpu result (extra.Sent device bytes) = Gives (argument cpu 1) (length bytes) result
write_act cpu result extra.Nothing = if is_pipe_write result then Gives (argument cpu 1) result result else Returns result
write_act cpu result more = Returns result

-- the act of a call of a kind, by the registers before it, its result and what else its record holds
abbrev pub call_act : Kind → Cpu → ℕ → Extra → Act
call_act Exit cpu result more = Exits
call_act Fork cpu result more = fork_act result more
call_act Exec cpu result more = exec_act cpu result more
call_act Wait cpu result more = wait_act cpu result more
call_act Sigreturn cpu result more = if result == 0 then Leaves else Returns result
call_act Read cpu result more = read_act cpu result more
call_act Write cpu result more = write_act cpu result more
call_act Shm cpu result more = if result == 0 then Shares else Returns result
call_act Other cpu result more = Returns result

-- a delivery without a handler ends the process
abbrev pub delivery_act : ℕ → ℕ → Bool → Act
delivery_act signal handler cut = if handler == 0 then Dies signal cut else Delivers signal handler cut

-- the act that a record tells, by the registers before it. A boot has no argument block
abbrev pub act_of : Cpu → Record → Option Act
act_of cpu (entry.Boot name give) = Some (Starts give.bytes 0 0)
act_of cpu (entry.Signal pid signal cut handler) = Some (delivery_act signal handler cut)
act_of cpu (entry.Call pid n result more) = Some (call_act (kind_of n) cpu result more)
act_of cpu (entry.End pid status) = Some (Faults status)
act_of cpu (entry.File name bytes) = None
act_of cpu (entry.Typed bytes) = None
act_of cpu (entry.Unplug device) = None
act_of cpu (entry.Slice pid ran) = None

use Rattle.arn_model.specs.ChannelCalls.{connect_row, listen_row, pipe_row}
use Rattle.arn_model.specs.FileCalls.{close_row, dup_row, open_row, seek_row, unlink_row}
use Rattle.arn_model.specs.ProcessCalls.{exec_row, exit_row, fork_row, getpid_row, yield_row}
use Rattle.arn_model.specs.SignalCalls.{kill_row, shm_row, sigaction_row, sigreturn_row}
use Rattle.guest_calls.proofs.Called.{carried-call, carried-calls}
use Rattle.guest_calls.proofs.Returned.{nothing-short, nothing-shorts}
use Rattle.guest_calls.proofs.kernel.Kernel.carry_out_ready.Goals as goal

pub returns-in-1-clause-carried : goal.returns-in-1-clause-carried
returns-in-1-clause-carried c =
    carried-call c.args.self.now c.exit.new.self c.args.pid c.args.number 1 exit_row c.requires.number c.in-1.is c.calls_come_to_rows.ensures.exit c.exit.result c.exit.ensures.carried

pub returns-in-5-clause-carried : goal.returns-in-5-clause-carried
returns-in-5-clause-carried c =
    carried-call c.args.self.now c.getpid.new.self c.args.pid c.args.number 5 getpid_row c.requires.number c.in-5.is c.calls_come_to_rows.ensures.getpid c.getpid.result c.getpid.ensures.carried

pub returns-in-9-clause-carried : goal.returns-in-9-clause-carried
returns-in-9-clause-carried c =
    carried-calls c.args.self.now c.open.new.self c.args.pid c.args.number 9 open_row c.requires.number c.in-9.is c.calls_come_to_rows.ensures.open c.open.result c.open.ensures.carried

pub returns-in-10-clause-carried : goal.returns-in-10-clause-carried
returns-in-10-clause-carried c =
    carried-call c.args.self.now c.close.new.self c.args.pid c.args.number 10 close_row c.requires.number c.in-10.is c.calls_come_to_rows.ensures.close c.close.result c.close.ensures.carried

pub returns-in-13-clause-carried : goal.returns-in-13-clause-carried
returns-in-13-clause-carried c =
    carried-call c.args.self.now c.seek.new.self c.args.pid c.args.number 13 seek_row c.requires.number c.in-13.is c.calls_come_to_rows.ensures.seek c.seek.result c.seek.ensures.carried

pub returns-in-14-clause-carried : goal.returns-in-14-clause-carried
returns-in-14-clause-carried c =
    carried-calls c.args.self.now c.dup.new.self c.args.pid c.args.number 14 dup_row c.requires.number c.in-14.is c.calls_come_to_rows.ensures.dup c.dup.result c.dup.ensures.carried

pub returns-in-16-clause-carried : goal.returns-in-16-clause-carried
returns-in-16-clause-carried c =
    carried-calls c.args.self.now c.unlink.new.self c.args.pid c.args.number 16 unlink_row c.requires.number c.in-16.is c.calls_come_to_rows.ensures.unlink c.unlink.result c.unlink.ensures.carried

pub returns-in-22-clause-carried : goal.returns-in-22-clause-carried
returns-in-22-clause-carried c =
    carried-call c.args.self.now c.yields.new.self c.args.pid c.args.number 22 yield_row c.requires.number c.in-22.is c.calls_come_to_rows.ensures.yield c.yields.result c.yields.ensures.carried

pub returns-in-3-clause-carried : goal.returns-in-3-clause-carried
returns-in-3-clause-carried c =
    carried-calls c.args.self.now c.exec.new.self c.args.pid c.args.number 3 exec_row c.requires.number c.in-3.is c.calls_come_to_rows.ensures.exec c.exec.result c.exec.ensures.carried

pub returns-in-2-clause-carried : goal.returns-in-2-clause-carried
returns-in-2-clause-carried c =
    carried-calls c.args.self.now c.fork.new.self c.args.pid c.args.number 2 fork_row c.requires.number c.in-2.is c.calls_come_to_rows.ensures.fork c.fork.result c.fork.ensures.carried

pub returns-in-15-clause-carried : goal.returns-in-15-clause-carried
returns-in-15-clause-carried c =
    carried-calls c.args.self.now c.pipe.new.self c.args.pid c.args.number 15 pipe_row c.requires.number c.in-15.is c.calls_come_to_rows.ensures.pipe c.pipe.result c.pipe.ensures.carried

pub returns-in-18-clause-carried : goal.returns-in-18-clause-carried
returns-in-18-clause-carried c =
    carried-calls c.args.self.now c.listen.new.self c.args.pid c.args.number 18 listen_row c.requires.number c.in-18.is c.calls_come_to_rows.ensures.listen c.listen.result c.listen.ensures.carried

pub returns-in-19-clause-carried : goal.returns-in-19-clause-carried
returns-in-19-clause-carried c =
    carried-calls c.args.self.now c.connect.new.self c.args.pid c.args.number 19 connect_row c.requires.number c.in-19.is c.calls_come_to_rows.ensures.connect c.connect.result c.connect.ensures.carried

pub returns-in-6-clause-carried : goal.returns-in-6-clause-carried
returns-in-6-clause-carried c =
    carried-call c.args.self.now c.kill.new.self c.args.pid c.args.number 6 kill_row c.requires.number c.in-6.is c.calls_come_to_rows.ensures.kill c.kill.result c.kill.ensures.carried

pub returns-in-7-clause-carried : goal.returns-in-7-clause-carried
returns-in-7-clause-carried c =
    carried-call c.args.self.now c.sigaction.new.self c.args.pid c.args.number 7 sigaction_row c.requires.number c.in-7.is c.calls_come_to_rows.ensures.sigaction c.sigaction.result c.sigaction.ensures.carried

pub returns-in-8-clause-carried : goal.returns-in-8-clause-carried
returns-in-8-clause-carried c =
    carried-call c.args.self.now c.sigreturn.new.self c.args.pid c.args.number 8 sigreturn_row c.requires.number c.in-8.is c.calls_come_to_rows.ensures.sigreturn c.sigreturn.result c.sigreturn.ensures.carried

pub returns-in-17-clause-carried : goal.returns-in-17-clause-carried
returns-in-17-clause-carried c =
    carried-calls c.args.self.now c.shm.new.self c.args.pid c.args.number 17 shm_row c.requires.number c.in-17.is c.calls_come_to_rows.ensures.shm c.shm.result c.shm.ensures.carried

pub returns-in-1-clause-short : goal.returns-in-1-clause-short
returns-in-1-clause-short c = nothing-short c.exit.ensures.nothing

pub returns-in-5-clause-short : goal.returns-in-5-clause-short
returns-in-5-clause-short c = nothing-short c.getpid.ensures.nothing

pub returns-in-6-clause-short : goal.returns-in-6-clause-short
returns-in-6-clause-short c = nothing-short c.kill.ensures.nothing

pub returns-in-7-clause-short : goal.returns-in-7-clause-short
returns-in-7-clause-short c = nothing-short c.sigaction.ensures.nothing

pub returns-in-8-clause-short : goal.returns-in-8-clause-short
returns-in-8-clause-short c = nothing-short c.sigreturn.ensures.nothing

pub returns-in-10-clause-short : goal.returns-in-10-clause-short
returns-in-10-clause-short c = nothing-short c.close.ensures.nothing

pub returns-in-13-clause-short : goal.returns-in-13-clause-short
returns-in-13-clause-short c = nothing-short c.seek.ensures.nothing

pub returns-in-22-clause-short : goal.returns-in-22-clause-short
returns-in-22-clause-short c = nothing-short c.yields.ensures.nothing

pub returns-in-14-clause-short : goal.returns-in-14-clause-short
returns-in-14-clause-short c = nothing-shorts c.dup.result c.dup.ensures.nothing

pub returns-in-15-clause-short : goal.returns-in-15-clause-short
returns-in-15-clause-short c = nothing-shorts c.pipe.result c.pipe.ensures.nothing

pub returns-in-17-clause-short : goal.returns-in-17-clause-short
returns-in-17-clause-short c = nothing-shorts c.shm.result c.shm.ensures.nothing

pub returns-in-18-clause-short : goal.returns-in-18-clause-short
returns-in-18-clause-short c = nothing-shorts c.listen.result c.listen.ensures.nothing

pub returns-in-19-clause-short : goal.returns-in-19-clause-short
returns-in-19-clause-short c = nothing-shorts c.connect.result c.connect.ensures.nothing

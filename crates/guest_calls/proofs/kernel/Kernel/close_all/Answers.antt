use Rattle.std.proofs.Common.{arith}
use Rattle.guest_calls.proofs.Closing.{one-closed}
use Rattle.guest_calls.proofs.kernel.Kernel.close_all.Goals as goal

pub loop-descriptor-preserved : goal.loop-descriptor-preserved
loop-descriptor-preserved c = one-closed c.args.pid c.loop-descriptor.descriptor c.args.self.now c.loop-descriptor.self c.close_descriptor.new.self c.loop-descriptor.invariant (omega (arith, c.count_descriptors.ensures)) c.close_descriptor.ensures.closed c.close_descriptor.ensures.processes

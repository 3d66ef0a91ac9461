use Rattle.std.proofs.Common.{refl}
use Rattle.acts_model.specs.Acts.{Faults}
use Rattle.arn_model.specs.Step.{ending, fault_step}
use Rattle.guest_calls.specs.State.{StandsFor}
use Rattle.guest_calls.proofs.Stands.{machine_with, of_process, acted-stands}
use Rattle.guest_calls.proofs.kernel.Kernel.fault.Goals as goal

pub returns : goal.returns
returns c =
    of_process c.args.self.now c.args.pid (λ m v. StandsFor c.ends.new.self (fault_step m c.args.pid v c.args.status).after)
    (λ b v shows sees. acted-stands c.args.self.now c.ends.new.self c.args.pid v b (ending (machine_with b c.args.self.now) c.args.pid (Faults c.args.status) c.args.status) shows (c.ends.ensures (Faults c.args.status) tt) refl)

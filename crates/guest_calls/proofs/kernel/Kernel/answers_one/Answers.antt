use Rattle.std.proofs.Common.{refl}
use Rattle.acts_model.specs.Acts.{Returns}
use Rattle.arn_model.specs.Kernel.{placed}
use Rattle.guest_calls.proofs.Carries.{acted-after}
use Rattle.guest_calls.proofs.kernel.Kernel.answers_one.Goals as goal

pub returns-clause-acted : goal.returns-clause-acted
returns-clause-acted c =
    acted-after c.args.pid (Returns c.place-descriptor.result) (placed c.args.pid c.args.description c.args.self.now.kernel) c.args.self.now c.place-descriptor.new.self c.returns.new.self c.place-descriptor.ensures.placed (c.returns.ensures (Returns c.place-descriptor.result) refl)

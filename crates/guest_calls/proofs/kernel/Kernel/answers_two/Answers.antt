use Rattle.std.proofs.Common.{◌+◌, ◌*◌, ◌∙◌, ap, refl}
use Rattle.acts_model.specs.Acts.{Returns}
use Rattle.arn_model.specs.FileCalls.{has_no_room}
use Rattle.arn_model.specs.Kernel.{placed}
use Rattle.guest_calls.specs.State.{State}
use Rattle.guest_calls.proofs.Carries.{acted-after}
use Rattle.guest_calls.proofs.NewChannels.{placed-room, placed-two}
use Rattle.guest_calls.proofs.kernel.Kernel.answers_two.Goals as goal

pub place-other-requires-clause-room : goal.place-other-requires-clause-room
place-other-requires-clause-room c = ap (λ (s : State). has_no_room s.kernel c.args.pid) c.place-one.ensures.placed ∙ placed-room c.args.self.now.kernel c.args.pid c.args.first c.requires.free

pub returns-clause-acted : goal.returns-clause-acted
returns-clause-acted c =
    let act = Returns (c.place-one.result + 256 * c.place-other.result) in
    acted-after c.args.pid act (placed c.args.pid (c.args.first + 1) (placed c.args.pid c.args.first c.args.self.now.kernel)) c.args.self.now c.place-other.new.self c.returns.new.self
    (placed-two c.args.pid c.args.first (c.args.first + 1) c.args.self.now c.place-one.new.self c.place-other.new.self c.place-one.ensures.placed c.place-other.ensures.placed) (c.returns.ensures act refl)

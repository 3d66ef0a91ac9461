use Rattle.std.proofs.Common.{◌∙◌, ◌+◌}
use Rattle.acts_model.specs.Acts.{Exits}
use Rattle.guest_calls.proofs.Past.{past-acted}
use Rattle.guest_calls.proofs.Pieces.{ended-sound, ended-acted}
use Rattle.guest_calls.proofs.kernel.Kernel.ends.Goals as goal

pub invariant_of-self : goal.invariant_of-self
invariant_of-self c =
    ended-sound c.self.inside c.args.pid c.args.status c.end.new.self c.ends.new.self c.in-Ok.ensures.ok c.ends.ensures.watches (c.self.inside.events + 1) c.self.invariant
    (past-acted c.others_stay_unheld.ensures c.self.inside.bodies c.self.inside.events c.self.invariant.past c.ends.new.self c.args.pid Exits (c.ends.ensures.follows c.self.inside.events Exits tt))

pub returns : goal.returns
returns c act is =
    ended-acted c.self.inside c.args.pid c.args.status c.end.new.self c.ends.new.self c.in-Ok.ensures.ok c.ends.ensures.watches c.args.self.now act (c.self.view_is ∙ c.close_all.ensures) (λ event. c.ends.ensures.follows event act is)

use Rattle.std.proofs.Common.{OnOk, subst}
use Rattle.acts_model.specs.Acts.{Forks}
use Rattle.taint_group.specs.Does.{DoesStep}
use Rattle.taint_group.proofs.group.Group.joins.Goals as goal

pub forks-requires : goal.forks-requires
forks-requires c = record { sound = c.requires.sound }

pub returns : goal.returns
returns c = subst (λ n. OnOk c.forks.result (DoesStep (Forks n) c.args.pid c.args.event c.args.len c.args.self.now c.forks.new.self)) c.in_ok-child.ensures c.forks.ensures

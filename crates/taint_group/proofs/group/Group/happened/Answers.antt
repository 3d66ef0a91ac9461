use Rattle.std.proofs.Common.{OnOk, subst}
use Rattle.taint_group.specs.Groups.{kept_of}
use Rattle.taint_state.specs.Goes.{TakesEvent}
use Rattle.taint_state.specs.Kept.{shown}
use Rattle.taint_group.proofs.group.Group.happened.Goals as goal

pub returns-clause-takes : goal.returns-clause-takes
returns-clause-takes c =
    subst (λ x. OnOk c.hears.result (TakesEvent x c.args.event c.args.entry.now c.args.before.now (shown (kept_of c.hears.new.self)))) c.in_ok-tidy.ensures.same c.hears.ensures.takes

use Rattle.std.proofs.Common.{OnOk, subst}
use Rattle.taint_group.specs.Groups.{kept_of}
use Rattle.taint_state.specs.Goes.{TakesInstr}
use Rattle.taint_state.specs.Kept.{shown}
use Rattle.taint_group.proofs.group.Group.instruction.Goals as goal

pub returns-clause-takes : goal.returns-clause-takes
returns-clause-takes c =
    subst (λ x. OnOk c.run.result (TakesInstr x c.args.pid c.args.instr.now c.args.before.now (shown (kept_of c.run.new.self)))) c.in_ok-tidy.ensures.same c.run.ensures.takes

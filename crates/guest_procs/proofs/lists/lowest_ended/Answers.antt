use Rattle.std.proofs.Common.{Some, None, ◌∙◌}
use Rattle.guest_procs.proofs.Waits.{lowest_ended-found}
use Rattle.guest_procs.proofs.lists.lowest_ended.Goals as goal

pub returns-clause-answer : goal.returns-clause-answer
returns-clause-answer c =
    c.ended.ensures.answer ∙ lowest_ended-found c.args.table.now c.args.parent c.args.pids.now (Some c.in_ok-pid.pid) c.requires c.in_ok-pid.ensures

pub returns-in_err-pid-clause-answer : goal.returns-in_err-pid-clause-answer
returns-in_err-pid-clause-answer c =
    c.from_residual.ensures ∙ lowest_ended-found c.args.table.now c.args.parent c.args.pids.now None c.requires c.in_err-pid.ensures

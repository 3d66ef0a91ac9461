use Rattle.std.proofs.Common.{◌≡◌, sym, subst, Some}
use Rattle.parts_model.specs.Processes.{ended_children, status_of}
use Rattle.arn_model.specs.Doing.{Request}
use Rattle.arn_model.specs.Kernel.{Kernel}
use Rattle.arn_model.specs.ProcessCalls.{wait_child}
use Rattle.guest_procs.specs.Answers.{lowest_ended}
use Rattle.guest_procs.specs.Status.{status_byte}
use Rattle.guest_requests.specs.Waits.{IsWait}
use Rattle.guest_requests.proofs.Children.{child-collected, has-child, row-some}
use Rattle.guest_requests.proofs.tables.Tables.waiting.Goals as goal

pub returns-in-Ok-clause-waiting : goal.returns-in-Ok-clause-waiting
returns-in-Ok-clause-waiting c m v is sees =
    let lowest : Some c.in-Ok.child ≡ lowest_ended m.kernel.processes c.args.pid = subst (λ (k : Kernel). Some c.in-Ok.child ≡ lowest_ended k.processes c.args.pid) is c.in-Ok.ensures.answer in
    let told : status_of m.kernel.processes c.in-Ok.child.pid ≡ Some (status_byte c.in-Ok.child.status c.in-Ok.child.event) =
    subst (λ (k : Kernel). status_of k.processes c.in-Ok.child.pid ≡ Some (status_byte c.in-Ok.child.status c.in-Ok.child.event)) is c.in-Ok.ensures.told in
    subst (λ (r : Request). IsWait c.if_reached.result m v r) (sym (row-some m c.args.pid v (has-child m.kernel.processes c.args.pid c.in-Ok.child lowest)))
    (c.if_reached.ensures.waits m v is sees (wait_child m v (ended_children m.kernel.processes c.args.pid)) (child-collected m c.args.pid v c.in-Ok.child lowest told))

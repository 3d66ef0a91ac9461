use Rattle.guest_procs.proofs.Numbers.{process-positive, with_process-shown}
use Rattle.guest_procs.proofs.slots.put.Goals as goal

pub returns : goal.returns
returns c =
    let some = process-positive c.args.all.now c.args.pid c.requires in
    with_process-shown c.args.all.now c.args.pid c.place.result c.args.state some c.place.ensures

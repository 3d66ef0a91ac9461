use Rattle.std.proofs.lemmas.Result.{on_ok_weaker}
use Rattle.replay_steps.proofs.Begins.{began}
use Rattle.replay_steps.proofs.beginning.begin.Goals as goal

pub returns-clause-ok : goal.returns-clause-ok
returns-clause-ok g c own count e stands =
    on_ok_weaker c.begin-2.result
    (began _ c.args.observer.now c.begin-2.new.self count c.args.event c.args.bodies.now c.begin.new.self own c.others_stay_unheld.ensures stands c.args.group e c.args.start.now c.in_ok-begin.ensures.follows)
    c.begin-2.ensures

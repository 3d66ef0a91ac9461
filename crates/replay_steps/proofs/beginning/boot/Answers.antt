use Rattle.std.proofs.Common.{◌≡◌, true, rules}
use Rattle.parts_model.specs.Image.{is_image}
use Rattle.replay_steps.proofs.Begins.{booted-as}
use Rattle.replay_steps.proofs.beginning.boot.Goals as goal

pub returns-clause-ok : goal.returns-clause-ok
returns-clause-ok g c own count stands =
    let image : is_image c.as_slice-file.result.now ≡ true = search rules in
    booted-as _ c.args.observer.now c.happened.new.self count c.args.event c.args.bodies.now c.boots.new.self own c.others_stay_unheld.ensures stands
    c.begin.new.self c.args.entry.now c.in-Boot.name c.in-Boot.give c.as_slice-file.result.now c.in-Boot.is c.as_slice-file.ensures image c.in_ok-boots.ensures.follows c.in_ok-begin.ensures c.in_ok-happened.ensures

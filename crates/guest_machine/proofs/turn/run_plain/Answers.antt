use Rattle.std.proofs.Common.{arith}
use Rattle.guest_machine.proofs.StepLemmas.{many-few, many-plain, many-so-far}
use Rattle.guest_machine.proofs.turn.run_plain.Goals as goal

pub returns-clause-ran : goal.returns-clause-ran
returns-clause-ran g c =
    many-plain c.args.kernel.now c.run.new.self c.args.pid c.args.count c.run.result c.requires.live c.requires.real c.run.ensures.alive c.run.ensures.stepped c.run.ensures.stops

pub returns-clause-real : goal.returns-clause-real
returns-clause-real g c =
    (many-so-far c.args.kernel.now c.run.new.self c.args.pid c.args.count c.run.result c.requires.live c.requires.real c.run.ensures.alive c.run.ensures.stepped c.run.ensures.stops).real

pub returns-clause-events : goal.returns-clause-events
returns-clause-events g c =
    (many-so-far c.args.kernel.now c.run.new.self c.args.pid c.args.count c.run.result c.requires.live c.requires.real c.run.ensures.alive c.run.ensures.stepped c.run.ensures.stops).events

pub returns-clause-within : goal.returns-clause-within
returns-clause-within g c =
    (many-few c.args.kernel.now c.run.new.self c.args.pid c.args.count c.run.result c.requires.live c.requires.real c.run.ensures.alive c.run.ensures.stepped c.run.ensures.stops).within

pub returns-clause-some : goal.returns-clause-some
returns-clause-some g c =
    (many-few c.args.kernel.now c.run.new.self c.args.pid c.args.count c.run.result c.requires.live c.requires.real c.run.ensures.alive c.run.ensures.stepped c.run.ensures.stops).some

pub returns-clause-steps : goal.returns-clause-steps
returns-clause-steps g c =
    let few = many-few c.args.kernel.now c.run.new.self c.args.pid c.args.count c.run.result c.requires.live c.requires.real c.run.ensures.alive c.run.ensures.stepped c.run.ensures.stops in
    omega (arith, c.run.ensures.tick, few.one)

pub returns-clause-at_most : goal.returns-clause-at_most
returns-clause-at_most g c =
    let few = many-few c.args.kernel.now c.run.new.self c.args.pid c.args.count c.run.result c.requires.live c.requires.real c.run.ensures.alive c.run.ensures.stepped c.run.ensures.stops in
    omega (arith, c.run.ensures.tick, few.counted)

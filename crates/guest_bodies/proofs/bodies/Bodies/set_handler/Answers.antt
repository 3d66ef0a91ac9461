use Rattle.std.proofs.Common.{ap, refl, ◌∙◌}
use Rattle.parts_model.specs.Signals.{Signals, with_handler}
use Rattle.guest_bodies.specs.Kept.{view_of, watch_of}
use Rattle.guest_bodies.proofs.InPlace.{place, in_place-kept, in_place-rewatches}
use Rattle.guest_bodies.proofs.Changes.{live-there, same-shown}
use Rattle.guest_bodies.proofs.bodies.Bodies.set_handler.Goals as goal

pub at_mut-requires : goal.at_mut-requires
at_mut-requires c = live-there c.args.self.now c.self.inside.guests c.self.inside.memories c.args.pid c.self.view_is c.requires.live

pub invariant_of-self : goal.invariant_of-self
invariant_of-self c =
    let at = place c.args.self.now c.self.inside.guests c.self.inside.memories c.args.pid c.at_mut.result.now (record c.at_mut.result.now { signals = c.set.new.self }) c.self.view_is c.self.invariant.sound c.at_mut.ensures.value in
    in_place-kept at refl refl c.self.invariant

pub returns-clause-set : goal.returns-clause-set
returns-clause-set c is =
    let at = place c.args.self.now c.self.inside.guests c.self.inside.memories c.args.pid c.at_mut.result.now (record c.at_mut.result.now { signals = c.set.new.self }) c.self.view_is c.self.invariant.sound c.at_mut.ensures.value in
    in_place-rewatches at (λ w. record w { handlers = with_handler w.handlers c.args.signal c.args.handler })
    (ap (λ (s : Signals). watch_of (record c.at_mut.result.now { signals = s })) (c.set.ensures.set is))
    (ap (λ (s : Signals). view_of c.self.inside.memories (record c.at_mut.result.now { signals = s })) (c.set.ensures.set is))

pub returns-clause-refused : goal.returns-clause-refused
returns-clause-refused c is =
    let g = c.at_mut.result.now in
    same-shown c.args.pid g (record g { signals = c.set.new.self }) c.self.inside.guests c.self.inside.memories c.self.inside.memories c.at_mut.ensures.value refl
    (ap (λ (s : Signals). view_of c.self.inside.memories (record g { signals = s })) (c.set.ensures.refused is))
    (ap (λ (s : Signals). watch_of (record g { signals = s })) (c.set.ensures.refused is))
    ∙ c.self.view_is

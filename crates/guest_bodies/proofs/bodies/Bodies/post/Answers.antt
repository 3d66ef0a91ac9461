use Rattle.std.proofs.Common.{ap, refl, true}
use Rattle.parts_model.specs.Signals.{Signals, with_pending}
use Rattle.guest_bodies.specs.Kept.{view_of, watch_of}
use Rattle.guest_bodies.proofs.InPlace.{place, in_place-kept, in_place-rewatches}
use Rattle.guest_bodies.proofs.Changes.{live-there}
use Rattle.guest_bodies.proofs.bodies.Bodies.post.Goals as goal

pub at_mut-requires : goal.at_mut-requires
at_mut-requires c = live-there c.args.self.now c.self.inside.guests c.self.inside.memories c.args.pid c.self.view_is c.requires.live

pub invariant_of-self : goal.invariant_of-self
invariant_of-self c =
    let at = place c.args.self.now c.self.inside.guests c.self.inside.memories c.args.pid c.at_mut.result.now (record c.at_mut.result.now { signals = c.post.new.self }) c.self.view_is c.self.invariant.sound c.at_mut.ensures.value in
    in_place-kept at refl refl c.self.invariant

pub returns : goal.returns
returns c =
    let at = place c.args.self.now c.self.inside.guests c.self.inside.memories c.args.pid c.at_mut.result.now (record c.at_mut.result.now { signals = c.post.new.self }) c.self.view_is c.self.invariant.sound c.at_mut.ensures.value in
    in_place-rewatches at (λ w. record w { pending = with_pending w.pending c.args.signal true })
    (ap (λ (s : Signals). watch_of (record c.at_mut.result.now { signals = s })) c.post.ensures)
    (ap (λ (s : Signals). view_of c.self.inside.memories (record c.at_mut.result.now { signals = s })) c.post.ensures)

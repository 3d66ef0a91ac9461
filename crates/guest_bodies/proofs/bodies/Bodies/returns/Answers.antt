use Rattle.std.proofs.Common.{Some, ap, sym, ◌∙◌}
use Rattle.acts_model.specs.Bodies.{View}
use Rattle.guest_bodies.specs.Kept.{view_of, watch_of}
use Rattle.guest_bodies.specs.declared.guest.Guest.{Guest}
use Rattle.guest_bodies.proofs.Changes.{live-there}
use Rattle.guest_bodies.proofs.InPlace.{acted-result, in_place-follows, in_place-kept, in_place-watches, joined-result, place}
use Rattle.guest_bodies.proofs.bodies.Bodies.returns.Goals as goal

pub at_mut-requires : goal.at_mut-requires
at_mut-requires c = live-there c.args.self.now c.self.inside.guests c.self.inside.memories c.args.pid c.self.view_is c.requires.live

pub invariant_of-self : goal.invariant_of-self
invariant_of-self c =
    let at = place c.args.self.now c.self.inside.guests c.self.inside.memories c.args.pid c.at_mut.result.now c.returns.new.self c.self.view_is c.self.invariant.sound c.at_mut.ensures.value in
    in_place-kept at (ap (λ (g : Guest). g.window) c.returns.ensures) (ap (λ (g : Guest). g.segment) c.returns.ensures) c.self.invariant

pub returns-clause-follows : goal.returns-clause-follows
returns-clause-follows c event act is =
    let at = place c.args.self.now c.self.inside.guests c.self.inside.memories c.args.pid c.at_mut.result.now c.returns.new.self c.self.view_is c.self.invariant.sound c.at_mut.ensures.value in
    let v : View = view_of c.self.inside.memories c.at_mut.result.now in
    in_place-follows at (ap (λ (g : Guest). g.window) c.returns.ensures) (ap (λ (g : Guest). g.segment) c.returns.ensures) event act
    (acted-result event c.args.answer act v is ∙ sym (ap (λ (g : Guest). Some (view_of c.self.inside.memories g)) c.returns.ensures))
    (joined-result event c.args.answer act v is)

pub returns-clause-watches : goal.returns-clause-watches
returns-clause-watches c =
    let at = place c.args.self.now c.self.inside.guests c.self.inside.memories c.args.pid c.at_mut.result.now c.returns.new.self c.self.view_is c.self.invariant.sound c.at_mut.ensures.value in
    in_place-watches at (ap watch_of c.returns.ensures)

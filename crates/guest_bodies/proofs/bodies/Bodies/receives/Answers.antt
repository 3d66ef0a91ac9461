use Rattle.std.proofs.Common.{Some, ap, refl, sym, ◌∙◌}
use Rattle.acts_model.specs.Acts.{Receives}
use Rattle.acts_model.specs.Bodies.{View}
use Rattle.acts_model.specs.Views.{with_result}
use Rattle.guest_bodies.specs.Kept.{contents_of, view_of, watch_of}
use Rattle.guest_bodies.specs.declared.guest.Guest.{Guest}
use Rattle.guest_bodies.proofs.Changes.{live-there, there-of}
use Rattle.guest_bodies.proofs.InPlace.{moved-follows, moved-kept, moved-watches, place}
use Rattle.guest_bodies.proofs.bodies.Bodies.receives.Goals as goal

pub at_mut-guest-requires : goal.at_mut-guest-requires
at_mut-guest-requires c = live-there c.args.self.now c.self.inside.guests c.self.inside.memories c.args.pid c.self.view_is c.requires.live

pub write-requires-clause-there : goal.write-requires-clause-there
write-requires-clause-there c = there-of c.args.pid c.at_mut-guest.result.now c.self.inside.guests c.self.inside.memories c.self.invariant.sound c.at_mut-guest.ensures.value

pub invariant_of-self : goal.invariant_of-self
invariant_of-self c =
    let at = place c.args.self.now c.self.inside.guests c.self.inside.memories c.args.pid c.at_mut-guest.result.now c.returns.new.self c.self.view_is c.self.invariant.sound c.at_mut-guest.ensures.value in
    moved-kept at (ap (λ (g : Guest). g.window) c.returns.ensures) (ap (λ (g : Guest). g.segment) c.returns.ensures) (contents_of c.write.new.self c.at_mut-guest.result.now) c.write.new.self c.write.ensures.tables c.self.invariant

pub returns-clause-follows : goal.returns-clause-follows
returns-clause-follows c event =
    let at = place c.args.self.now c.self.inside.guests c.self.inside.memories c.args.pid c.at_mut-guest.result.now c.returns.new.self c.self.view_is c.self.invariant.sound c.at_mut-guest.ensures.value in
    moved-follows at (ap (λ (g : Guest). g.window) c.returns.ensures) (ap (λ (g : Guest). g.segment) c.returns.ensures) (contents_of c.write.new.self c.at_mut-guest.result.now) c.write.new.self c.write.ensures.tables event (Receives c.args.at c.args.bytes.now c.args.answer)
    (ap (λ (v : View). Some (with_result c.args.answer v)) (sym c.write.ensures.written) ∙ ap (λ (x : Guest). Some (view_of c.write.new.self x)) (sym c.returns.ensures))
    (λ b. refl)

pub returns-clause-watches : goal.returns-clause-watches
returns-clause-watches c =
    let at = place c.args.self.now c.self.inside.guests c.self.inside.memories c.args.pid c.at_mut-guest.result.now c.returns.new.self c.self.view_is c.self.invariant.sound c.at_mut-guest.ensures.value in
    moved-watches at (ap (λ (g : Guest). g.window) c.returns.ensures) (ap (λ (g : Guest). g.segment) c.returns.ensures) (contents_of c.write.new.self c.at_mut-guest.result.now) c.write.new.self c.write.ensures.tables (ap watch_of c.returns.ensures)

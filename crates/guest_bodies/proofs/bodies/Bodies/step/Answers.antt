use Rattle.std.proofs.Common.{◌≡◌, Some, ap, set, subst, ◌∙◌}
use Rattle.acts_model.specs.Bodies.{View, put}
use Rattle.acts_model.specs.Views.{reach}
use Rattle.guest_bodies.specs.Follows.{Follows}
use Rattle.guest_bodies.specs.Kept.{contents_of, shown_all, view_of, watch_of}
use Rattle.guest_bodies.specs.declared.guest.Guest.{Guest}
use Rattle.guest_bodies.proofs.Changes.{live-there, same-shown, there-of}
use Rattle.guest_bodies.proofs.Counts.{OnStop-both}
use Rattle.guest_bodies.proofs.InPlace.{moved-kept, moved-put, moved-watches, place}
use Rattle.guest_bodies.proofs.Many.{reach-back}
use Rattle.guest_bodies.proofs.Seen.{seen-there}
use Rattle.guest_bodies.proofs.bodies.Bodies.step.Goals as goal

pub at_mut-guest-requires : goal.at_mut-guest-requires
at_mut-guest-requires g c = live-there c.args.self.now c.self.inside.guests c.self.inside.memories c.args.pid c.self.view_is c.requires.live

pub step-requires : goal.step-requires
step-requires g c = there-of c.args.pid c.at_mut-guest.result.now c.self.inside.guests c.self.inside.memories c.self.invariant.sound c.at_mut-guest.ensures.value

pub invariant_of-self : goal.invariant_of-self
invariant_of-self g c =
    let at = place c.args.self.now c.self.inside.guests c.self.inside.memories c.args.pid c.at_mut-guest.result.now c.step.new.guest c.self.view_is c.self.invariant.sound c.at_mut-guest.ensures.value in
    moved-kept at (ap (λ (g : Guest). g.window) c.step.ensures.guest) (ap (λ (g : Guest). g.segment) c.step.ensures.guest) (contents_of c.step.new.self c.at_mut-guest.result.now) c.step.new.self c.step.ensures.tables c.self.invariant

pub returns-clause-ran : goal.returns-clause-ran
returns-clause-ran g c =
    let at = place c.args.self.now c.self.inside.guests c.self.inside.memories c.args.pid c.at_mut-guest.result.now c.step.new.guest c.self.view_is c.self.invariant.sound c.at_mut-guest.ensures.value in
    let before : View = view_of c.self.inside.memories c.at_mut-guest.result.now in
    let after : View = view_of c.step.new.self c.step.new.guest in
    record {
      before = before;
      cpu = c.step.new.guest.cpu;
      memory = reach after;
      stood = seen-there c.args.self.now c.self.inside.guests c.self.inside.memories c.args.pid c.at_mut-guest.result.now c.self.view_is c.at_mut-guest.ensures.value;
      tells = c.step.ensures.effect;
      follows = subst (λ (v : View). Follows c.args.self.now (put c.args.pid v) (shown_all (set c.self.inside.guests c.args.pid (Some c.step.new.guest)) c.step.new.self)) (reach-back c.self.inside.memories c.step.new.self c.at_mut-guest.result.now c.step.new.guest c.step.ensures.guest)
          (moved-put at (ap (λ (g : Guest). g.window) c.step.ensures.guest) (ap (λ (g : Guest). g.segment) c.step.ensures.guest) (contents_of c.step.new.self c.at_mut-guest.result.now) c.step.new.self c.step.ensures.tables);
    }

pub returns-clause-stop : goal.returns-clause-stop
returns-clause-stop g c =
    OnStop-both c.step.result (λ (guest : c.step.new.guest ≡ c.at_mut-guest.result.now) (same : c.step.new.self ≡ c.self.inside.memories).
    same-shown c.args.pid c.at_mut-guest.result.now c.step.new.guest c.self.inside.guests c.self.inside.memories c.step.new.self c.at_mut-guest.ensures.value same (ap (view_of c.self.inside.memories) guest) (ap watch_of guest) ∙ c.self.view_is)
    c.step.ensures.stop c.step.ensures.same

pub returns-clause-watches : goal.returns-clause-watches
returns-clause-watches g c =
    let at = place c.args.self.now c.self.inside.guests c.self.inside.memories c.args.pid c.at_mut-guest.result.now c.step.new.guest c.self.view_is c.self.invariant.sound c.at_mut-guest.ensures.value in
    moved-watches at (ap (λ (g : Guest). g.window) c.step.ensures.guest) (ap (λ (g : Guest). g.segment) c.step.ensures.guest) (contents_of c.step.new.self c.at_mut-guest.result.now) c.step.new.self c.step.ensures.tables (ap watch_of c.step.ensures.guest)

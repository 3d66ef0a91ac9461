use Rattle.std.proofs.Common.{Option, IfSome, ap, subst, sym}
use Rattle.acts_model.specs.Bodies.{View}
use Rattle.acts_model.specs.Views.{stands_at}
use Rattle.guest_bodies.specs.Kept.{contents_of, watch_of}
use Rattle.guest_bodies.specs.Running.{RanMany, StopsAt}
use Rattle.guest_bodies.specs.Shown.{Guests}
use Rattle.guest_bodies.specs.declared.guest.Guest.{Guest}
use Rattle.guest_bodies.proofs.Changes.{live-there, there-of}
use Rattle.guest_bodies.proofs.InPlace.{moved-kept, moved-watches, place}
use Rattle.guest_bodies.proofs.Many.{lives-now, ran-many, ran-so, sees-now}
use Rattle.guest_bodies.proofs.bodies.Bodies.run.Goals as goal

pub at_mut-guest-requires : goal.at_mut-guest-requires
at_mut-guest-requires g c = live-there c.args.self.now c.self.inside.guests c.self.inside.memories c.args.pid c.self.view_is c.requires.live

pub run-requires : goal.run-requires
run-requires g c = there-of c.args.pid c.at_mut-guest.result.now c.self.inside.guests c.self.inside.memories c.self.invariant.sound c.at_mut-guest.ensures.value

pub invariant_of-self : goal.invariant_of-self
invariant_of-self g c =
    let at = place c.args.self.now c.self.inside.guests c.self.inside.memories c.args.pid c.at_mut-guest.result.now c.run.new.guest c.self.view_is c.self.invariant.sound c.at_mut-guest.ensures.value in
    moved-kept at (ap (λ (g : Guest). g.window) c.run.ensures.guest) (ap (λ (g : Guest). g.segment) c.run.ensures.guest) (contents_of c.run.new.self c.at_mut-guest.result.now) c.run.new.self c.run.ensures.tables c.self.invariant

pub returns-clause-ran : goal.returns-clause-ran
returns-clause-ran g c =
    ran-so c.args.self.now c.self.inside.guests c.self.inside.memories c.args.pid c.at_mut-guest.result.now c.self.view_is c.self.invariant.sound c.at_mut-guest.ensures.value (λ (new : Guests). RanMany c.run.result.ran c.args.pid c.args.self.now new) c.run.new.guest c.run.new.self c.run.ensures.guest c.run.ensures.tables
    (ran-many c.args.self.now c.self.inside.guests c.self.inside.memories c.args.pid c.at_mut-guest.result.now c.self.view_is c.self.invariant.sound c.at_mut-guest.ensures.value c.run.result.ran c.run.new.guest.cpu (contents_of c.run.new.self c.at_mut-guest.result.now) c.run.ensures.many)

pub returns-clause-watches : goal.returns-clause-watches
returns-clause-watches g c =
    let at = place c.args.self.now c.self.inside.guests c.self.inside.memories c.args.pid c.at_mut-guest.result.now c.run.new.guest c.self.view_is c.self.invariant.sound c.at_mut-guest.ensures.value in
    moved-watches at (ap (λ (g : Guest). g.window) c.run.ensures.guest) (ap (λ (g : Guest). g.segment) c.run.ensures.guest) (contents_of c.run.new.self c.at_mut-guest.result.now) c.run.new.self c.run.ensures.tables (ap watch_of c.run.ensures.guest)

pub returns-clause-stops : goal.returns-clause-stops
returns-clause-stops g c =
    subst (λ (o : Option View). IfSome o (λ v. StopsAt c.run.result.outcome c.run.result.ran c.args.count (stands_at v)))
    (sym (sees-now c.args.self.now c.self.inside.guests c.self.inside.memories c.args.pid c.at_mut-guest.result.now c.self.view_is c.self.invariant.sound c.at_mut-guest.ensures.value c.run.new.guest c.run.new.self)) c.run.ensures.stops

pub returns-clause-live : goal.returns-clause-live
returns-clause-live g c = lives-now c.args.self.now c.self.inside.guests c.self.inside.memories c.args.pid c.at_mut-guest.result.now c.self.view_is c.self.invariant.sound c.at_mut-guest.ensures.value c.run.new.guest c.run.new.self

use Rattle.std.proofs.Common.{◌<◌, ℕ, Option, Some, IfSome, ap, set, subst, sym}
use Rattle.std.proofs.lemmas.Result.{IfOk-weaker, on_err_weaker}
use Rattle.acts_model.specs.Bodies.{View}
use Rattle.acts_model.specs.Views.{stands_at}
use Rattle.guest_bodies.specs.Kept.{contents_of, shown_all, watch_of, windows_for}
use Rattle.guest_bodies.specs.Led.{LedFails, LedMany}
use Rattle.guest_bodies.specs.Shown.{Guests}
use Rattle.guest_bodies.specs.Told.{IsStop, ToldMany}
use Rattle.guest_bodies.specs.declared.guest.Guest.{Guest}
use Rattle.guest_bodies.proofs.Changes.{live-there, there-of}
use Rattle.guest_bodies.proofs.InPlace.{moved-kept, moved-watches, place}
use Rattle.guest_bodies.proofs.Many.{ran-so, sees-now, told-many}
use Rattle.guest_bodies.proofs.bodies.Bodies.run_told.Goals.{After-self-1}
use Rattle.guest_bodies.proofs.bodies.Bodies.run_told.Given.{Over}
use Rattle.guest_bodies.proofs.bodies.Bodies.run_told.Goals as goal

pub at_mut-guest-requires : goal.at_mut-guest-requires
at_mut-guest-requires g c = live-there c.args.self.now c.self.inside.guests c.self.inside.memories c.args.pid c.self.view_is c.requires.live

pub run_told-requires : goal.run_told-requires
run_told-requires g c = there-of c.args.pid c.at_mut-guest.result.now c.self.inside.guests c.self.inside.memories c.self.invariant.sound c.at_mut-guest.ensures.value

pub invariant_of-self : goal.invariant_of-self
invariant_of-self g c =
    let at = place c.args.self.now c.self.inside.guests c.self.inside.memories c.args.pid c.at_mut-guest.result.now c.run_told.new.guest c.self.view_is c.self.invariant.sound c.at_mut-guest.ensures.value in
    moved-kept at (ap (λ (g : Guest). g.window) c.run_told.ensures.guest) (ap (λ (g : Guest). g.segment) c.run_told.ensures.guest) (contents_of c.run_told.new.self c.at_mut-guest.result.now) c.run_told.new.self c.run_told.ensures.tables c.self.invariant

-- so many instructions that it ran, among all
told : (g : Over) (c : After-self-1 g) (n : ℕ) (b : g.row.O.Denot) → LedMany (windows_for c.at_mut-guest.result.now.segment) g.O.Observer.runs c.args.pid n c.at_mut-guest.result.now.cpu (contents_of c.self.inside.memories c.at_mut-guest.result.now) c.args.observer.now c.run_told.new.guest.cpu (contents_of c.run_told.new.self c.at_mut-guest.result.now) b → ToldMany g.O.Observer.runs c.args.pid n c.args.self.now (shown_all (set c.self.inside.guests c.args.pid (Some c.run_told.new.guest)) c.run_told.new.self) c.args.observer.now b
told g c n b led =
    ran-so c.args.self.now c.self.inside.guests c.self.inside.memories c.args.pid c.at_mut-guest.result.now c.self.view_is c.self.invariant.sound c.at_mut-guest.ensures.value (λ (new : Guests). ToldMany g.O.Observer.runs c.args.pid n c.args.self.now new c.args.observer.now b) c.run_told.new.guest c.run_told.new.self c.run_told.ensures.guest c.run_told.ensures.tables
    (told-many c.args.self.now c.self.inside.guests c.self.inside.memories c.args.pid c.at_mut-guest.result.now c.self.view_is c.self.invariant.sound c.at_mut-guest.ensures.value g.O.Observer.runs n c.run_told.new.guest.cpu (contents_of c.run_told.new.self c.at_mut-guest.result.now) c.args.observer.now b led)

pub returns-clause-told : goal.returns-clause-told
returns-clause-told g c = IfOk-weaker c.run_told.result _ _ (λ (ran : ℕ) led. told g c ran c.run_told.new.observer led) c.run_told.ensures.told

pub returns-clause-stops : goal.returns-clause-stops
returns-clause-stops g c =
    IfOk-weaker c.run_told.result _ _
    (λ (ran : ℕ) stops (less : ran < c.args.count). subst (λ (o : Option View). IfSome o (λ v. IsStop (stands_at v)))
    (sym (sees-now c.args.self.now c.self.inside.guests c.self.inside.memories c.args.pid c.at_mut-guest.result.now c.self.view_is c.self.invariant.sound c.at_mut-guest.ensures.value c.run_told.new.guest c.run_told.new.self)) (stops less))
    c.run_told.ensures.stops

pub returns-clause-watches : goal.returns-clause-watches
returns-clause-watches g c =
    let at = place c.args.self.now c.self.inside.guests c.self.inside.memories c.args.pid c.at_mut-guest.result.now c.run_told.new.guest c.self.view_is c.self.invariant.sound c.at_mut-guest.ensures.value in
    moved-watches at (ap (λ (g : Guest). g.window) c.run_told.ensures.guest) (ap (λ (g : Guest). g.segment) c.run_told.ensures.guest) (contents_of c.run_told.new.self c.at_mut-guest.result.now) c.run_told.new.self c.run_told.ensures.tables (ap watch_of c.run_told.ensures.guest)

pub returns-clause-failed : goal.returns-clause-failed
returns-clause-failed g c =
    on_err_weaker c.run_told.result
    (λ (f : LedFails (windows_for c.at_mut-guest.result.now.segment) g.O.Observer.runs c.args.pid c.args.count c.at_mut-guest.result.now.cpu (contents_of c.self.inside.memories c.at_mut-guest.result.now) c.args.observer.now c.run_told.new.guest.cpu (contents_of c.run_told.new.self c.at_mut-guest.result.now) c.args.steps.now c.run_told.new.steps). record {
      ran = f.ran;
      observer = f.observer;
      told = told g c f.ran f.observer f.led;
      less = f.less;
      counted = f.counted;
    })
    c.run_told.ensures.failed

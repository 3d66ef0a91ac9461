use Rattle.std.proofs.Common.{◌≡◌, List, Option, Some, ap, set, subst, sym, ◌∙◌}
use Rattle.acts_model.specs.Acts.{Shares, done}
use Rattle.guest_bodies.specs.Follows.{Follows, KeepsWatches}
use Rattle.guest_bodies.specs.Kept.{IsKept, released, segment_part, shown_all}
use Rattle.guest_bodies.specs.Shown.{Guests}
use Rattle.guest_bodies.specs.declared.guest.Held.{Held}
use Rattle.guest_bodies.specs.declared.guest.Guest.{Guest}
use Rattle.guest_bodies.proofs.Changes.{live-there}
use Rattle.guest_bodies.proofs.Fresh.{new-of}
use Rattle.guest_bodies.proofs.InPlace.{Place, place}
use Rattle.guest_bodies.proofs.Released.{segment-kept, segment-unseen}
use Rattle.guest_bodies.proofs.Shares.{shares-follows, shares-segments, shares-sound, shares-watches, shares-windows, sharing}
use Rattle.guest_bodies.proofs.bodies.Bodies.shares.Goals.{After-release_segment}
use Rattle.guest_bodies.proofs.bodies.Bodies.shares.Goals as goal

pub at_mut-guest-requires : goal.at_mut-guest-requires
at_mut-guest-requires c = live-there c.args.self.now c.self.inside.guests c.self.inside.memories c.args.pid c.self.view_is c.requires.live

abbrev after : After-release_segment → List (Option Guest)
after c = set c.self.inside.guests c.args.pid (Some (sharing c.at_mut-guest.result.now c.args.event c.in_ok-key.key))

at : (c : After-release_segment) → Place c.args.self.now c.self.inside.guests c.self.inside.memories c.args.pid c.at_mut-guest.result.now (sharing c.at_mut-guest.result.now c.args.event c.in_ok-key.key)
at c = place c.args.self.now c.self.inside.guests c.self.inside.memories c.args.pid c.at_mut-guest.result.now (sharing c.at_mut-guest.result.now c.args.event c.in_ok-key.key) c.self.view_is c.self.invariant.sound c.at_mut-guest.ensures.value

stands_now : (c : After-release_segment) → set c.self.inside.guests c.args.pid (Some c.shares-former.new.self) ≡ after c
stands_now c = ap (λ (x : Guest). set c.self.inside.guests c.args.pid (Some x)) c.shares-former.ensures.shares

segment_goes : (c : After-release_segment) → c.release_segment.new.self ≡ record c.add_segment.new.self { segments = released segment_part (after c) c.at_mut-guest.result.now.segment c.add_segment.new.self.segments }
segment_goes c =
    c.release_segment.ensures
    ∙ (ap (λ (all : List (Option Guest)). record c.add_segment.new.self { segments = released segment_part all c.shares-former.result c.add_segment.new.self.segments }) (c.as_slice.ensures ∙ stands_now c)
    ∙ ap (λ (o : Option Held). record c.add_segment.new.self { segments = released segment_part (after c) o c.add_segment.new.self.segments }) c.shares-former.ensures.former)

unseen : (c : After-release_segment) (P : Guests → Type 0) → P (shown_all (after c) c.add_segment.new.self) → P (shown_all (set c.self.inside.guests c.args.pid (Some c.shares-former.new.self)) c.release_segment.new.self)
unseen c P holds =
    subst (λ (all : List (Option Guest)). P (shown_all all c.release_segment.new.self)) (sym (stands_now c))
    (segment-unseen (after c) c.add_segment.new.self c.release_segment.new.self c.at_mut-guest.result.now.segment (segment_goes c) P holds)

pub invariant_of-self-2 : goal.invariant_of-self-2
invariant_of-self-2 c =
    let new = new-of c.args.self.now c.self.inside.guests c.self.inside.memories c.args.event c.self.view_is c.requires.fresh in
    subst (λ (all : List (Option Guest)). IsKept all c.release_segment.new.self) (sym (stands_now c))
    (segment-kept (after c) c.add_segment.new.self c.release_segment.new.self c.at_mut-guest.result.now.segment (segment_goes c)
    (shares-sound c.args.event c.in_ok-key.key c.in_ok-segment.segment (at c) new c.in_ok-key.ensures.adds c.add_segment.ensures.windows)
    (shares-windows c.args.event c.in_ok-key.key c.in_ok-segment.segment (at c) new c.in_ok-key.ensures.adds c.add_segment.ensures.windows c.self.invariant.windows)
    (shares-segments c.args.event c.in_ok-key.key c.in_ok-segment.segment (at c) new c.in_ok-key.ensures.adds c.add_segment.ensures.windows c.self.invariant.segments))

pub returns-clause-follows : goal.returns-clause-follows
returns-clause-follows c =
    let new = new-of c.args.self.now c.self.inside.guests c.self.inside.memories c.args.event c.self.view_is c.requires.fresh in
    unseen c (λ (now : Guests). Follows c.args.self.now (done c.args.pid c.args.event Shares) now)
    (shares-follows c.args.event c.in_ok-key.key c.in_ok-segment.segment (at c) new c.in_ok-key.ensures.adds c.add_segment.ensures.windows c.in_ok-segment.ensures.zeros)

pub returns-clause-watches : goal.returns-clause-watches
returns-clause-watches c =
    let new = new-of c.args.self.now c.self.inside.guests c.self.inside.memories c.args.event c.self.view_is c.requires.fresh in
    unseen c (λ (now : Guests). KeepsWatches c.args.self.now now)
    (shares-watches c.args.event c.in_ok-key.key c.in_ok-segment.segment (at c) new c.in_ok-key.ensures.adds c.add_segment.ensures.windows)

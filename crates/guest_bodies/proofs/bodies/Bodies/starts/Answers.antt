use Rattle.std.proofs.Common.{◌≡◌, List, Option, Some, option_map, ap, refl, set, subst, sym, ◌∙◌}
use Rattle.acts_model.specs.Acts.{Starts, done}
use Rattle.acts_model.specs.Views.{read}
use Rattle.guest_bodies.specs.Follows.{Follows, SetsWatch}
use Rattle.guest_bodies.specs.Kept.{IsKept, released, segment_part, shown_all, view_of, window_part}
use Rattle.guest_bodies.specs.Shown.{Guests, restarted, watch_in}
use Rattle.guest_bodies.specs.declared.guest.Guest.{Guest}
use Rattle.guest_bodies.proofs.Begins.{GetsWindow}
use Rattle.guest_bodies.proofs.Changes.{live-there}
use Rattle.guest_bodies.proofs.InPlace.{Place, place}
use Rattle.guest_bodies.proofs.Released.{both-kept, both-unseen}
use Rattle.guest_bodies.proofs.Starts.{starting, starts-first, starts-follows, starts-segments, starts-sound, starts-watch, starts-windows}
use Rattle.guest_bodies.proofs.bodies.Bodies.starts.Goals.{After-release_segment}
use Rattle.guest_bodies.proofs.bodies.Bodies.starts.Goals as goal

pub at_mut-guest-requires : goal.at_mut-guest-requires
at_mut-guest-requires c = live-there c.args.self.now c.self.inside.guests c.self.inside.memories c.args.pid c.self.view_is c.requires.live

abbrev after : After-release_segment → List (Option Guest)
after c = set c.self.inside.guests c.args.pid (Some (starting c.at_mut-guest.result.now c.args.event c.in_ok-key.key c.in_ok-first.first.cpu))

at : (c : After-release_segment) → Place c.args.self.now c.self.inside.guests c.self.inside.memories c.args.pid c.at_mut-guest.result.now (starting c.at_mut-guest.result.now c.args.event c.in_ok-key.key c.in_ok-first.first.cpu)
at c = place c.args.self.now c.self.inside.guests c.self.inside.memories c.args.pid c.at_mut-guest.result.now (starting c.at_mut-guest.result.now c.args.event c.in_ok-key.key c.in_ok-first.first.cpu) c.self.view_is c.self.invariant.sound c.at_mut-guest.ensures.value

gets : (c : After-release_segment) → GetsWindow c.args.event c.in_ok-key.key c.in_ok-first.first.space.bytes (starting c.at_mut-guest.result.now c.args.event c.in_ok-key.key c.in_ok-first.first.cpu) c.self.inside.memories c.add_window.new.self
gets c = record { window = refl; adds = c.in_ok-key.ensures.adds; same = c.add_window.ensures.segments }

stands_now : (c : After-release_segment) → set c.self.inside.guests c.args.pid (Some c.starts.new.self) ≡ after c
stands_now c = ap (λ (x : Guest). set c.self.inside.guests c.args.pid (Some x)) c.starts.ensures

window_goes : (c : After-release_segment) → c.release_window.new.self ≡ record c.add_window.new.self { windows = released window_part (after c) (Some c.at_mut-guest.result.now.window) c.add_window.new.self.windows }
window_goes c = c.release_window.ensures ∙ ap (λ (all : List (Option Guest)). record c.add_window.new.self { windows = released window_part all (Some c.at_mut-guest.result.now.window) c.add_window.new.self.windows }) (c.as_slice.ensures ∙ stands_now c)

segment_goes : (c : After-release_segment) → c.release_segment.new.self ≡ record c.release_window.new.self { segments = released segment_part (after c) c.at_mut-guest.result.now.segment c.release_window.new.self.segments }
segment_goes c = c.release_segment.ensures ∙ ap (λ (all : List (Option Guest)). record c.release_window.new.self { segments = released segment_part all c.at_mut-guest.result.now.segment c.release_window.new.self.segments }) (c.as_slice-2.ensures ∙ stands_now c)

unseen : (c : After-release_segment) (P : Guests → Type 0) → P (shown_all (after c) c.add_window.new.self) → P (shown_all (set c.self.inside.guests c.args.pid (Some c.starts.new.self)) c.release_segment.new.self)
unseen c P holds =
    subst (λ (all : List (Option Guest)). P (shown_all all c.release_segment.new.self)) (sym (stands_now c))
    (both-unseen (after c) c.add_window.new.self c.release_window.new.self c.release_segment.new.self c.at_mut-guest.result.now.window c.at_mut-guest.result.now.segment (window_goes c) (segment_goes c) P holds)

pub invariant_of-self-2 : goal.invariant_of-self-2
invariant_of-self-2 c =
    subst (λ (all : List (Option Guest)). IsKept all c.release_segment.new.self) (sym (stands_now c))
    (both-kept (after c) c.add_window.new.self c.release_window.new.self c.release_segment.new.self c.at_mut-guest.result.now.window c.at_mut-guest.result.now.segment (window_goes c) (segment_goes c)
    (starts-sound c.args.event c.in_ok-key.key c.in_ok-first.first (at c) c.requires.fresh (gets c))
    (starts-windows c.args.event c.in_ok-key.key c.in_ok-first.first (at c) c.requires.fresh (gets c) c.self.invariant.windows)
    (starts-segments c.args.event c.in_ok-key.key c.in_ok-first.first (at c) c.requires.fresh (gets c) c.self.invariant.segments))

pub returns-clause-follows : goal.returns-clause-follows
returns-clause-follows c =
    unseen c (λ (now : Guests). Follows c.args.self.now (done c.args.pid c.args.event (Starts c.args.file.now c.args.at c.args.len)) now)
    (starts-follows c.args.event c.in_ok-key.key c.in_ok-first.first (at c) c.requires.fresh (gets c) c.args.file.now (read (view_of c.self.inside.memories c.at_mut-guest.result.now) c.args.at c.args.len) c.args.at c.args.len
    (starts-first c.args.event c.in_ok-key.key c.in_ok-first.first (at c) c.requires.fresh (gets c) c.args.file.now c.args.at c.args.len c.in_ok-first.ensures.cpu c.in_ok-first.ensures.space) refl)

pub returns-clause-watches : goal.returns-clause-watches
returns-clause-watches c =
    unseen c (λ (now : Guests). SetsWatch c.args.pid (option_map restarted (watch_in c.args.self.now c.args.pid)) c.args.self.now now)
    (starts-watch c.args.event c.in_ok-key.key c.in_ok-first.first (at c) c.requires.fresh (gets c))

use Rattle.std.proofs.Common.{◌≡◌, List, None, Option, Some, ap, set, subst, sym, ◌∙◌}
use Rattle.acts_model.specs.Acts.{done}
use Rattle.guest_bodies.specs.Follows.{Follows, SetsWatch}
use Rattle.guest_bodies.specs.Kept.{IsKept, released, segment_part, shown_all, window_part}
use Rattle.guest_bodies.specs.Shown.{Guests}
use Rattle.guest_bodies.specs.declared.guest.Guest.{Guest}
use Rattle.guest_bodies.proofs.Changes.{live-there, set-changes}
use Rattle.guest_bodies.proofs.Ends.{ends-watch, follows-end, sound-gone}
use Rattle.guest_bodies.proofs.Holders.{given-back}
use Rattle.guest_bodies.proofs.InPlace.{some-there}
use Rattle.guest_bodies.proofs.Released.{both-kept, both-unseen}
use Rattle.guest_bodies.proofs.bodies.Bodies.ends.Goals.{After-release_segment}
use Rattle.guest_bodies.proofs.bodies.Bodies.ends.Goals as goal

pub take_at-guest-requires : goal.take_at-guest-requires
take_at-guest-requires c = live-there c.args.self.now c.self.inside.guests c.self.inside.memories c.args.pid c.self.view_is c.requires.live

abbrev left : After-release_segment → List (Option Guest)
left c = set c.self.inside.guests c.args.pid None

window_goes : (c : After-release_segment) → c.release_window.new.self ≡ record c.self.inside.memories { windows = released window_part (left c) (Some c.take_at-guest.result.window) c.self.inside.memories.windows }
window_goes c = c.release_window.ensures ∙ ap (λ (all : List (Option Guest)). record c.self.inside.memories { windows = released window_part all (Some c.take_at-guest.result.window) c.self.inside.memories.windows }) (c.as_slice.ensures ∙ c.take_at-guest.ensures.rest)

segment_goes : (c : After-release_segment) → c.release_segment.new.self ≡ record c.release_window.new.self { segments = released segment_part (left c) c.take_at-guest.result.segment c.release_window.new.self.segments }
segment_goes c = c.release_segment.ensures ∙ ap (λ (all : List (Option Guest)). record c.release_window.new.self { segments = released segment_part all c.take_at-guest.result.segment c.release_window.new.self.segments }) (c.as_slice-2.ensures ∙ c.take_at-guest.ensures.rest)

unseen : (c : After-release_segment) (P : Guests → Type 0) → P (shown_all (left c) c.self.inside.memories) → P (shown_all c.take_at-guest.new.self c.release_segment.new.self)
unseen c P holds =
    subst (λ (all : List (Option Guest)). P (shown_all all c.release_segment.new.self)) (sym c.take_at-guest.ensures.rest)
    (both-unseen (left c) c.self.inside.memories c.release_window.new.self c.release_segment.new.self c.take_at-guest.result.window c.take_at-guest.result.segment (window_goes c) (segment_goes c) P holds)

pub invariant_of-self : goal.invariant_of-self
invariant_of-self c =
    let stands = c.take_at-guest.ensures.value in
    let gone = set-changes c.args.pid None c.self.inside.guests (some-there c.self.inside.guests c.args.pid c.take_at-guest.result stands) in
    subst (λ (all : List (Option Guest)). IsKept all c.release_segment.new.self) (sym c.take_at-guest.ensures.rest)
    (both-kept (left c) c.self.inside.memories c.release_window.new.self c.release_segment.new.self c.take_at-guest.result.window c.take_at-guest.result.segment (window_goes c) (segment_goes c)
    (sound-gone c.args.pid c.self.inside.guests (left c) c.self.inside.memories c.self.invariant.sound gone)
    (given-back window_part c.args.pid c.take_at-guest.result None c.self.inside.guests (left c) c.self.inside.memories.windows stands gone c.self.invariant.windows)
    (given-back segment_part c.args.pid c.take_at-guest.result None c.self.inside.guests (left c) c.self.inside.memories.segments stands gone c.self.invariant.segments))

pub returns-clause-follows : goal.returns-clause-follows
returns-clause-follows c event act end =
    unseen c (λ (new : Guests). Follows c.args.self.now (done c.args.pid event act) new)
    (follows-end c.args.self.now c.args.pid event act c.self.inside.guests c.self.inside.memories end c.self.view_is c.requires.live)

pub returns-clause-watches : goal.returns-clause-watches
returns-clause-watches c =
    unseen c (λ (new : Guests). SetsWatch c.args.pid None c.args.self.now new)
    (ends-watch c.args.self.now c.args.pid c.self.inside.guests c.self.inside.memories c.self.view_is c.requires.live)

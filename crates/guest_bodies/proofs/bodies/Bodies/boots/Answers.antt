use Rattle.std.proofs.Common.{◌≡◌, List, Option, Some, set, subst, sym, ap, refl, ◌∙◌}
use Rattle.parts_model.specs.Numbered.{nth}
use Rattle.guest_bodies.specs.Follows.{Follows, SetsWatch}
use Rattle.guest_bodies.specs.Tables.{Tables}
use Rattle.guest_bodies.specs.declared.guest.Guest.{Guest}
use Rattle.guest_bodies.proofs.Numbers.{nth-set, nth-set_other}
use Rattle.acts_model.specs.Acts.{Starts, done, unborn}
use Rattle.acts_model.specs.Bodies.{put}
use Rattle.guest_bodies.specs.Kept.{shown_all, IsKept}
use Rattle.guest_bodies.specs.Shown.{fresh_watch}
use Rattle.guest_bodies.proofs.Begins.{GetsWindow}
use Rattle.guest_bodies.proofs.Starts.{booting, boots-follows, boots-kept, boots-watch}
use Rattle.guest_bodies.proofs.bodies.Bodies.boots.Goals.{After-put}
use Rattle.guest_bodies.proofs.bodies.Bodies.boots.Goals as goal

gets : (c : After-put) → GetsWindow c.args.event c.in_ok-key.key c.in_ok-first.first.space.bytes (booting c.args.event c.in_ok-key.key c.in_ok-first.first.cpu) c.self.inside.memories c.put_window.new.self
gets c =
    let room : Tables = c.window_room.new.self in
    record {
      window = refl;
      adds = record {
        none = sym (c.window_room.ensures.windows c.in_ok-key.key) ∙ c.in_ok-key.ensures.none;
        one = ap (λ (t : Tables). nth t.windows c.in_ok-key.key) c.put_window.ensures ∙ nth-set room.windows c.in_ok-key.key (Some c.in_ok-first.first.space.bytes) c.in_ok-key.ensures.room;
        others = λ k ne. ap (λ (t : Tables). nth t.windows k) c.put_window.ensures ∙ (nth-set_other room.windows c.in_ok-key.key (Some c.in_ok-first.first.space.bytes) k ne ∙ c.window_room.ensures.windows k);
      };
      same = ap (λ (t : Tables). t.segments) c.put_window.ensures ∙ c.window_room.ensures.segments;
    }

stands_now : (c : After-put) → c.put.new.self ≡ set c.make_room-2.new.self 1 (Some (booting c.args.event c.in_ok-key.key c.in_ok-first.first.cpu))
stands_now c = c.put.ensures ∙ ap (λ (x : Guest). set c.make_room-2.new.self 1 (Some x)) c.boot-guest.ensures

pub invariant_of-self-2 : goal.invariant_of-self-2
invariant_of-self-2 c =
    subst (λ (all : List (Option Guest)). IsKept all c.put_window.new.self) (sym (stands_now c))
    (boots-kept c.args.event c.in_ok-key.key c.in_ok-first.first c.self.view_is c.self.invariant.sound c.requires.none (record { same = c.make_room-2.ensures.same }) c.in_ok-make_room-2.ensures.room (gets c) c.self.invariant.windows c.self.invariant.segments)

pub returns-clause-follows : goal.returns-clause-follows
returns-clause-follows c =
    subst (λ (all : List (Option Guest)). Follows c.args.self.now (λ b. done 1 c.args.event (Starts c.args.file.now 0 0) (put 1 (unborn c.args.event) b)) (shown_all all c.put_window.new.self)) (sym (stands_now c))
    (boots-follows c.args.event c.in_ok-key.key c.in_ok-first.first c.self.view_is c.self.invariant.sound c.requires.none (record { same = c.make_room-2.ensures.same }) c.in_ok-make_room-2.ensures.room (gets c) c.args.file.now
    (record { cpu = c.in_ok-first.ensures.cpu; space = c.in_ok-first.ensures.space }))

pub returns-clause-watches : goal.returns-clause-watches
returns-clause-watches c =
    subst (λ (all : List (Option Guest)). SetsWatch 1 (Some fresh_watch) c.args.self.now (shown_all all c.put_window.new.self)) (sym (stands_now c))
    (boots-watch c.args.event c.in_ok-key.key c.in_ok-first.first c.self.view_is c.self.invariant.sound c.requires.none (record { same = c.make_room-2.ensures.same }) c.in_ok-make_room-2.ensures.room (gets c))

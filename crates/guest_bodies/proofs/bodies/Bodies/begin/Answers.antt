use Rattle.std.proofs.Common.{◌≡◌, List, ℕ, [], Some, None, set, subst, sym, ap, ap₂, Option, ◌∙◌}
use Rattle.parts_model.specs.Numbered.{nth}
use Rattle.guest_bodies.specs.Follows.{Follows, SetsWatch}
use Rattle.guest_bodies.specs.Tables.{Tables, held_bytes}
use Rattle.guest_bodies.specs.declared.guest.Guest.{Guest}
use Rattle.guest_bodies.proofs.Numbers.{nth-set, nth-set_other}
use Rattle.arn_base.specs.declared.machine.Block.{Block}
use Rattle.acts_model.specs.Acts.{beginning_in, child_view}
use Rattle.acts_model.specs.Bodies.{View, put}
use Rattle.parts_model.specs.Blocks.{with_blocks}
use Rattle.parts_model.specs.Memory.{zeros}
use Rattle.parts_model.specs.declared.limits.TheConstants.{WINDOW_LEN}
use Rattle.guest_bodies.specs.Kept.{body_of, shown_all, view_of, watch_of, IsKept}
use Rattle.guest_bodies.specs.Shown.{Watch, fresh_watch}
use Rattle.guest_bodies.proofs.Begins.{GetsWindow, begins-follows, begins-kept, begins-watch, gets-view}
use Rattle.guest_bodies.proofs.bodies.Bodies.begin.Goals.{After-put}
use Rattle.guest_bodies.proofs.bodies.Bodies.begin.Goals as goal

gets : (c : After-put) → GetsWindow c.args.event c.in_ok-key.key c.in_ok-space.space.bytes c.begin-guest.result c.self.inside.memories c.put_window.new.self
gets c =
    let room : Tables = c.window_room.new.self in
    record {
      window = ap (λ (g : Guest). g.window) c.begin-guest.ensures;
      adds = record {
        none = sym (c.window_room.ensures.windows c.in_ok-key.key) ∙ c.in_ok-key.ensures.none;
        one = ap (λ (t : Tables). nth t.windows c.in_ok-key.key) c.put_window.ensures ∙ nth-set room.windows c.in_ok-key.key (Some c.in_ok-space.space.bytes) c.in_ok-key.ensures.room;
        others = λ k ne. ap (λ (t : Tables). nth t.windows k) c.put_window.ensures ∙ (nth-set_other room.windows c.in_ok-key.key (Some c.in_ok-space.space.bytes) k ne ∙ c.window_room.ensures.windows k);
      };
      same = ap (λ (t : Tables). t.segments) c.put_window.ensures ∙ c.window_room.ensures.segments;
    }

pub invariant_of-self-2 : goal.invariant_of-self-2
invariant_of-self-2 c =
    subst (λ (all : List (Option Guest)). IsKept all c.put_window.new.self) (sym c.put.ensures)
    (begins-kept c.args.child c.self.view_is c.self.invariant.sound c.requires.fresh (record { same = c.make_room-2.ensures.same }) c.in_ok-make_room-2.ensures.room (gets c) (ap (λ (g : Guest). g.segment) c.begin-guest.ensures) c.requires.dead c.self.invariant.windows c.self.invariant.segments)

seen : (c : After-put) → view_of c.put_window.new.self c.begin-guest.result ≡ child_view c.args.event (beginning_in c.args.start.now) None []
seen c =
    gets-view (gets c)
    ∙ ap₂ (λ (g : Guest) (w : List ℕ). record { body = body_of g; window = w; segment = held_bytes c.self.inside.memories.segments g.segment }) c.begin-guest.ensures
    (c.in_ok-space.ensures ∙ ap (λ (l : List Block). with_blocks l (zeros WINDOW_LEN)) c.as_slice.ensures)

pub returns-clause-follows : goal.returns-clause-follows
returns-clause-follows c =
    subst (λ (all : List (Option Guest)). Follows c.args.self.now (put c.args.child (child_view c.args.event (beginning_in c.args.start.now) None [])) (shown_all all c.put_window.new.self)) (sym c.put.ensures)
    (subst (λ (v : View). Follows c.args.self.now (put c.args.child v) (shown_all (set c.make_room-2.new.self c.args.child (Some c.begin-guest.result)) c.put_window.new.self)) (seen c)
    (begins-follows c.args.child c.self.view_is c.self.invariant.sound c.requires.fresh (record { same = c.make_room-2.ensures.same }) c.in_ok-make_room-2.ensures.room (gets c) (ap (λ (g : Guest). g.segment) c.begin-guest.ensures)))

pub returns-clause-watches : goal.returns-clause-watches
returns-clause-watches c =
    subst (λ (all : List (Option Guest)). SetsWatch c.args.child (Some fresh_watch) c.args.self.now (shown_all all c.put_window.new.self)) (sym c.put.ensures)
    (subst (λ (w : Watch). SetsWatch c.args.child (Some w) c.args.self.now (shown_all (set c.make_room-2.new.self c.args.child (Some c.begin-guest.result)) c.put_window.new.self)) (ap watch_of c.begin-guest.ensures)
    (begins-watch c.args.child c.self.view_is c.self.invariant.sound c.requires.fresh (record { same = c.make_room-2.ensures.same }) c.in_ok-make_room-2.ensures.room (gets c) (ap (λ (g : Guest). g.segment) c.begin-guest.ensures)))

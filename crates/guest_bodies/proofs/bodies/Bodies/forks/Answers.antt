use Rattle.std.proofs.Common.{◌≡◌, List, ℕ, Option, Some, is_some, ap, ap₂, set, sym, ◌∙◌}
use Rattle.parts_model.specs.Numbered.{nth}
use Rattle.acts_model.specs.Acts.{beginning_of, child_view}
use Rattle.guest_bodies.specs.Kept.{body_of, view_of, watch_of}
use Rattle.guest_bodies.specs.Tables.{Tables, held_bytes}
use Rattle.guest_bodies.specs.declared.guest.Guest.{Guest}
use Rattle.guest_bodies.proofs.Begins.{GetsWindow, gets-view}
use Rattle.guest_bodies.proofs.Changes.{live-there}
use Rattle.guest_bodies.proofs.Forks.{Bears, bears, bears-watch, fork-kept, fork-follows}
use Rattle.guest_bodies.proofs.Keyed.{held-at}
use Rattle.guest_bodies.proofs.Numbers.{nth-set, nth-set_other}
use Rattle.guest_bodies.proofs.bodies.Bodies.forks.Goals.{After-fork}
use Rattle.guest_bodies.proofs.bodies.Bodies.forks.Goals as goal

pub at-parent-requires : goal.at-parent-requires
at-parent-requires c = live-there c.args.self.now c.self.inside.guests c.self.inside.memories c.args.pid c.self.view_is c.requires.live

pub fork-requires-clause-live : goal.fork-requires-clause-live
fork-requires-clause-live c =
    ap (λ (o : Option Guest). is_some o) (c.make_room.ensures.same c.args.pid)
    ∙ live-there c.args.self.now c.self.inside.guests c.self.inside.memories c.args.pid c.self.view_is c.requires.live

-- the window that the child gets
gets : (c : After-fork) → GetsWindow c.args.event c.in_ok-key.key c.in_ok-space.space.bytes c.child-guest.result c.self.inside.memories c.put_window.new.self
gets c =
    let room : Tables = c.window_room.new.self in
    let same : c.copy_window.new.self ≡ room = c.copy_window.ensures.same in
    let put : c.put_window.new.self ≡ record room { windows = set room.windows c.in_ok-key.key (Some c.in_ok-space.space.bytes) } =
    c.put_window.ensures ∙ ap (λ (t : Tables). record t { windows = set t.windows c.in_ok-key.key (Some c.in_ok-space.space.bytes) }) same in
    record {
      window = ap (λ (g : Guest). g.window) c.child-guest.ensures;
      adds = record {
        none = sym (c.window_room.ensures.windows c.in_ok-key.key) ∙ c.in_ok-key.ensures.none;
        one = ap (λ (t : Tables). nth t.windows c.in_ok-key.key) put ∙ nth-set room.windows c.in_ok-key.key (Some c.in_ok-space.space.bytes) c.in_ok-key.ensures.room;
        others = λ k ne. ap (λ (t : Tables). nth t.windows k) put ∙ (nth-set_other room.windows c.in_ok-key.key (Some c.in_ok-space.space.bytes) k ne ∙ c.window_room.ensures.windows k);
      };
      same = ap (λ (t : Tables). t.segments) put ∙ c.window_room.ensures.segments;
    }

borne : (c : After-fork) → Bears c.args.self.now c.self.inside.guests c.make_room.new.self c.fork.new.all c.self.inside.memories c.put_window.new.self c.args.pid c.args.child c.args.event c.in_ok-key.key c.in_ok-space.space.bytes c.at-parent.result.now c.child-guest.result
borne c =
    bears c.args.self.now c.self.inside.guests c.make_room.new.self c.fork.new.all c.self.inside.memories c.put_window.new.self c.args.pid c.args.child c.args.event c.in_ok-key.key c.in_ok-space.space.bytes c.at-parent.result.now c.child-guest.result
    c.self.view_is c.self.invariant c.at-parent.ensures c.requires.dead c.requires.fresh
    (record { same = c.make_room.ensures.same }) c.in_ok-make_room.ensures.room c.fork.ensures (gets c)

-- the child's window has the bytes of its parent's
bytes : (c : After-fork) → c.in_ok-space.space.bytes ≡ held_bytes c.self.inside.memories.windows (Some c.at-parent.result.now.window)
bytes c =
    sym (held-at c.self.inside.memories.windows c.at-parent.result.now.window c.in_ok-space.space.bytes
    (sym (c.window_room.ensures.windows c.at-parent.result.now.window.key) ∙ c.in_ok-space.ensures.bytes))

seen : (c : After-fork) → view_of c.put_window.new.self c.child-guest.result ≡ child_view c.args.event (beginning_of (view_of c.self.inside.memories c.at-parent.result.now)) (view_of c.self.inside.memories c.at-parent.result.now).body.segment (view_of c.self.inside.memories c.at-parent.result.now).segment
seen c =
    gets-view (gets c)
    ∙ ap₂ (λ (g : Guest) (w : List ℕ). record { body = body_of g; window = w; segment = held_bytes c.self.inside.memories.segments g.segment }) c.child-guest.ensures (bytes c)

pub invariant_of-self-2 : goal.invariant_of-self-2
invariant_of-self-2 c = fork-kept (borne c) (ap (λ (g : Guest). g.segment) c.child-guest.ensures)

pub returns-clause-follows : goal.returns-clause-follows
returns-clause-follows c = fork-follows (borne c) (ap (λ (g : Guest). g.segment) c.child-guest.ensures) (seen c)

pub returns-clause-watches : goal.returns-clause-watches
returns-clause-watches c = bears-watch (borne c) (ap watch_of c.child-guest.ensures)

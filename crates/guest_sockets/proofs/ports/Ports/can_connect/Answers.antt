use Rattle.std.proofs.Common.{sym, ap, ◌∙◌}
use Rattle.std.specs.List.{position}
use Rattle.guest_sockets.proofs.Places.{can_connect-here, can_connect-none, has, none-here}
use Rattle.guest_sockets.proofs.ports.Ports.can_connect.Goals as goal

pub returns-in-Some : goal.returns-in-Some
returns-in-Some c = c.has_place.ensures ∙ sym (can_connect-here c.args.self.now c.self.inside.all.items c.args.port c.in-Some.place _ c.self.view_is (sym (ap (position (has c.args.port)) c.deref.ensures.value) ∙ sym c.place_of.ensures ∙ c.in-Some.is) c.index.ensures c.self.invariant)

pub returns-in-None : goal.returns-in-None
returns-in-None c = sym (can_connect-none c.args.self.now c.args.port (none-here c.args.self.now c.self.inside.all.items c.args.port c.self.view_is (sym (ap (position (has c.args.port)) c.deref.ensures.value) ∙ sym c.place_of.ensures ∙ c.in-None.is)))

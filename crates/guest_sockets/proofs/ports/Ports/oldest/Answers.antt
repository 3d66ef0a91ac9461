use Rattle.std.proofs.Common.{sym, ap, ◌∙◌}
use Rattle.std.specs.List.{position}
use Rattle.guest_sockets.proofs.Places.{has, none-here, oldest-here, oldest-none}
use Rattle.guest_sockets.proofs.ports.Ports.oldest.Goals as goal

pub returns-in-Some : goal.returns-in-Some
returns-in-Some c = c.oldest.ensures ∙ sym (oldest-here c.args.self.now c.self.inside.all.items c.args.port c.in-Some.place _ c.self.view_is (sym (ap (position (has c.args.port)) c.deref.ensures.value) ∙ sym c.place_of.ensures ∙ c.in-Some.is) c.index.ensures c.self.invariant)

pub returns-in-None : goal.returns-in-None
returns-in-None c = sym (oldest-none c.args.self.now c.args.port (none-here c.args.self.now c.self.inside.all.items c.args.port c.self.view_is (sym (ap (position (has c.args.port)) c.deref.ensures.value) ∙ sym c.place_of.ensures ∙ c.in-None.is)))

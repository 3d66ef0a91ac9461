use Rattle.std.proofs.Common.{is_some, ap, ◌∙◌}
use Rattle.std.specs.List.{position}
use Rattle.guest_sockets.proofs.Places.{has, in_use-found}
use Rattle.guest_sockets.proofs.ports.Ports.is_in_use.Goals as goal

pub returns : goal.returns
returns c =
    c.is_some.ensures ∙ ap is_some (c.place_of.ensures ∙ ap (position (has c.args.port)) c.deref.ensures.value)
    ∙ in_use-found c.args.self.now c.self.inside.all.items c.args.port c.self.view_is

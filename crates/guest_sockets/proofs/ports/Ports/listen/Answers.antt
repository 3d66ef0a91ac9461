use Rattle.std.proofs.Common.{◌++◌, ◌∷◌, [], sym, ap, subst, ◌∙◌}
use Rattle.parts_model.specs.Ports.{Port, Ports, is_in_use}
use Rattle.guest_sockets.specs.Sound.{AreApart}
use Rattle.guest_sockets.proofs.Places.{AreApart-push}
use Rattle.guest_sockets.proofs.ports.Ports.listen.Goals as goal

pub invariant_of-self-2 : goal.invariant_of-self-2
invariant_of-self-2 c =
    let ps = c.self.inside.all.items in
    let number = ap (λ (p : Port). p.number) c.new-port.ensures in
    let free = ap (is_in_use ps) number ∙ ap (λ (all : Ports). is_in_use all c.args.port) c.self.view_is ∙ sym c.is_in_use.ensures ∙ c.if-is_in_use.false in
    subst AreApart (sym (c.push_reserved.ensures.items ∙ ap (λ (all : Ports). all ++ c.new-port.result ∷ []) c.in_ok-reserve.ensures.items))
    (AreApart-push ps c.new-port.result free c.self.invariant)

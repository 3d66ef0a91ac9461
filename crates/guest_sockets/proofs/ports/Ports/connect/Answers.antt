use Rattle.std.proofs.Common.{◌≡◌, Err, IsFalse, sym, ap, subst, ◌∙◌, refl}
use Rattle.std.specs.List.{position}
use Rattle.guest_sockets.specs.declared.errors.PortError.{PortError}
use Rattle.guest_sockets.proofs.Places.{OnOk-map, apart-here, can_connect-here, can_connect-none, changed-here, has, none-here}
use Rattle.guest_sockets.proofs.ports.Ports.connect.Goals as goal

pub invariant_of-self : goal.invariant_of-self
invariant_of-self c = apart-here c.args.self.now c.self.inside.all.items c.args.port c.in-Some.place _ c.self.view_is (sym (ap (position (has c.args.port)) c.deref.ensures.value) ∙ sym c.place_of.ensures ∙ c.in-Some.is) c.index_mut.ensures.value c.self.invariant c.connect.new.self c.connect.ensures.number

pub returns-in-Some-clause-waits : goal.returns-in-Some-clause-waits
returns-in-Some-clause-waits c = OnOk-map c.connect.result _ _ (changed-here c.args.self.now c.self.inside.all.items c.args.port c.in-Some.place _ c.self.view_is (sym (ap (position (has c.args.port)) c.deref.ensures.value) ∙ sym c.place_of.ensures ∙ c.in-Some.is) c.index_mut.ensures.value c.self.invariant _ c.connect.new.self) c.connect.ensures.waits

pub returns-in-Some-clause-refused : goal.returns-in-Some-clause-refused
returns-in-Some-clause-refused c =
    subst (λ b. (c.connect.result ≡ Err PortError.Refused → IsFalse b) × (IsFalse b → c.connect.result ≡ Err PortError.Refused))
    (sym (can_connect-here c.args.self.now c.self.inside.all.items c.args.port c.in-Some.place _ c.self.view_is (sym (ap (position (has c.args.port)) c.deref.ensures.value) ∙ sym c.place_of.ensures ∙ c.in-Some.is) c.index_mut.ensures.value c.self.invariant)) c.connect.ensures.refused

pub returns-in-None-clause-refused : goal.returns-in-None-clause-refused
returns-in-None-clause-refused c = (λ _. can_connect-none c.args.self.now c.args.port (none-here c.args.self.now c.self.inside.all.items c.args.port c.self.view_is (sym (ap (position (has c.args.port)) c.deref.ensures.value) ∙ sym c.place_of.ensures ∙ c.in-None.is)), λ _. refl)

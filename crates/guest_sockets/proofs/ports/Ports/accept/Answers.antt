use Rattle.std.proofs.Common.{◌≡◌, Option, Some, Ok, Err, IfOk, IsNone, is_ok, is_some, true≢false, drop, sym, ap, subst, ◌∙◌, refl}
use Rattle.std.specs.List.{position}
use Rattle.parts_model.specs.declared.open.Conn.{Conn}
use Rattle.parts_model.specs.Ports.{Port, oldest}
use Rattle.guest_sockets.specs.declared.errors.PortError.{PortError}
use Rattle.guest_sockets.proofs.Places.{apart-here, changed-here, has, none-here, oldest-here, oldest-none, with_port-none}
use Rattle.guest_sockets.proofs.ports.Ports.accept.Goals as goal
use Rattle.guest_sockets.proofs.ports.Ports.accept.Goals.{in-Some-accept, in-None-accept}

pub returns-in-None-clause-not_ready : goal.returns-in-None-clause-not_ready
returns-in-None-clause-not_ready c = (λ _. ap is_some (oldest-none c.args.self.now c.args.port (none-here c.args.self.now c.self.inside.all.items c.args.port c.self.view_is (sym (ap (position (has c.args.port)) c.deref.ensures.value) ∙ sym c.place_of.ensures ∙ c.in-None.is))), λ _. refl)

pub returns-in-None-clause-accepted : goal.returns-in-None-clause-accepted
returns-in-None-clause-accepted c = sym (with_port-none c.args.self.now c.args.port (λ p. record p { waiting = drop 1 p.waiting }) (none-here c.args.self.now c.self.inside.all.items c.args.port c.self.view_is (sym (ap (position (has c.args.port)) c.deref.ensures.value) ∙ sym c.place_of.ensures ∙ c.in-None.is)))

pub invariant_of-self : goal.invariant_of-self
invariant_of-self c = apart-here c.args.self.now c.self.inside.all.items c.args.port c.in-Some.place _ c.self.view_is (sym (ap (position (has c.args.port)) c.deref.ensures.value) ∙ sym c.place_of.ensures ∙ c.in-Some.is) c.index_mut.ensures.value c.self.invariant c.accept.new.self (ap (λ (p : Port). p.number) c.accept.ensures.rest)

pub returns-clause-accepted : goal.returns-clause-accepted
returns-clause-accepted c = changed-here c.args.self.now c.self.inside.all.items c.args.port c.in-Some.place _ c.self.view_is (sym (ap (position (has c.args.port)) c.deref.ensures.value) ∙ sym c.place_of.ensures ∙ c.in-Some.is) c.index_mut.ensures.value c.self.invariant (λ p. record p { waiting = drop 1 p.waiting }) c.accept.new.self c.accept.ensures.rest

pub returns-clause-oldest : goal.returns-clause-oldest
returns-clause-oldest c =
    let oldest_is = oldest-here c.args.self.now c.self.inside.all.items c.args.port c.in-Some.place _ c.self.view_is (sym (ap (position (has c.args.port)) c.deref.ensures.value) ∙ sym c.place_of.ensures ∙ c.in-Some.is) c.index_mut.ensures.value c.self.invariant ∙ sym c.accept.ensures.oldest in
    elim c.match-accept.branch [
      | in-Some-accept w ↦ subst (λ r. IfOk r (λ conn. oldest c.args.self.now c.args.port ≡ Some conn)) (sym w.result-is) (oldest_is ∙ w.in-Some-accept.is)
      | in-None-accept w ↦ subst (λ r. IfOk r (λ conn. oldest c.args.self.now c.args.port ≡ Some conn)) (sym w.result-is) tt
    ]

pub returns-clause-not_ready : goal.returns-clause-not_ready
returns-clause-not_ready c =
    let oldest_is = oldest-here c.args.self.now c.self.inside.all.items c.args.port c.in-Some.place _ c.self.view_is (sym (ap (position (has c.args.port)) c.deref.ensures.value) ∙ sym c.place_of.ensures ∙ c.in-Some.is) c.index_mut.ensures.value c.self.invariant ∙ sym c.accept.ensures.oldest in
    elim c.match-accept.branch [
      | in-Some-accept w ↦ rw w.result-is (ready _ _ (oldest_is ∙ w.in-Some-accept.is))
      | in-None-accept w ↦ rw w.result-is (λ _. ap is_some (oldest_is ∙ w.in-None-accept.is), λ _. refl)
    ]
  where
    ready : (o : Option Conn) (conn : Conn) → o ≡ Some conn → (Ok conn ≡ Err PortError.NotReady → IsNone o) × (IsNone o → Ok conn ≡ Err PortError.NotReady)
    ready o conn is = (λ bad. absurd (true≢false (ap is_ok bad)), λ none. absurd (true≢false (sym (ap is_some is) ∙ none)))

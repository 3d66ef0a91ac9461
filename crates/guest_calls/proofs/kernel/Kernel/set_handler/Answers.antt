use Rattle.std.proofs.Common.{◌≡◌, is_some, true, refl, subst, sym}
use Rattle.parts_model.specs.Numbered.{nth}
use Rattle.parts_model.specs.Signals.{with_handler}
use Rattle.guest_calls.specs.Handled.{Rehandled}
use Rattle.guest_calls.specs.Kept.{state_of}
use Rattle.guest_calls.specs.State.{State}
use Rattle.guest_calls.proofs.Handled.{rehandled, rehandled-sound, unless-refused-sound}
use Rattle.guest_calls.proofs.kernel.Kernel.set_handler.Goals as goal

pub invariant_of-self : goal.invariant_of-self
invariant_of-self c =
    let live : is_some (nth c.self.inside.bodies c.args.pid) ≡ true = subst (λ (s : State). is_some (nth s.guests c.args.pid) ≡ true) (sym c.self.view_is) c.requires.live in
    unless-refused-sound c.self.inside c.set_handler.new.self c.set_handler.result c.self.invariant
    (λ may. rehandled-sound c.self.inside c.args.pid (λ w. record w { handlers = with_handler w.handlers c.args.signal c.args.handler }) (λ h. record h { handlers = with_handler h.handlers c.args.signal c.args.handler }) (λ w. refl) c.set_handler.new.self c.self.invariant live (c.set_handler.ensures.set may))
    c.set_handler.ensures.refused

pub returns-clause-set : goal.returns-clause-set
returns-clause-set c may =
    let live : is_some (nth c.self.inside.bodies c.args.pid) ≡ true = subst (λ (s : State). is_some (nth s.guests c.args.pid) ≡ true) (sym c.self.view_is) c.requires.live in
    subst (λ (s : State). Rehandled c.args.pid (λ h. record h { handlers = with_handler h.handlers c.args.signal c.args.handler }) s (state_of (record c.self.inside { bodies = c.set_handler.new.self }))) c.self.view_is
    (rehandled c.self.inside c.args.pid (λ w. record w { handlers = with_handler w.handlers c.args.signal c.args.handler }) (λ h. record h { handlers = with_handler h.handlers c.args.signal c.args.handler }) (λ w. refl) c.set_handler.new.self c.self.invariant live (c.set_handler.ensures.set may))

use Rattle.std.proofs.Common.{◌≡◌, ◌∙◌, ℕ, true, false, ap, refl, subst, sym, arith}
use Rattle.arn_base.specs.declared.records.Extra.TheVariants as extra
use Rattle.parts_model.specs.Signals.{can_set, with_handler}
use Rattle.acts_model.specs.Acts.{Returns}
use Rattle.arn_model.specs.Doing.{returns as returns_of}
use Rattle.arn_model.specs.Kernel.{with_handling}
use Rattle.guest_calls.specs.Acted.{Carried}
use Rattle.guest_calls.specs.Handled.{handling_as}
use Rattle.guest_calls.specs.State.{State, OfProcess}
use Rattle.guest_calls.proofs.Carries.{carried-by, carried-same}
use Rattle.guest_calls.proofs.Handled.{acted-behind, live-behind, set-row, unset-row}
use Rattle.guest_calls.proofs.Stands.{machine_with}
use Rattle.guest_calls.proofs.kernel.Kernel.handles.Goals as goal

pub returns-then-not-set_handler-clause-carried : goal.returns-then-not-set_handler-clause-carried
returns-then-not-set_handler-clause-carried c =
    let tested : c.set_handler.result ≡ false = first_of (cc, grind arith) in
    let none : can_set c.args.signal c.args.handler ≡ false = sym c.set_handler.ensures.allowed ∙ tested in
    carried-same c.args.pid c.answers.result c.args.self.now c.answers.new.self (λ m v. returns_of c.error.result m.kernel) (λ m v. handling_as m c.args.pid c.args.signal c.args.handler)
    (subst (λ (s : State). OfProcess s c.args.pid (λ m v. Carried (returns_of c.error.result m.kernel) c.answers.result m c.args.pid v c.answers.new.self)) (c.set_handler.ensures.refused tested) c.answers.ensures.carried)
    (λ b v sees. ap (λ (a : ℕ). returns_of a c.args.self.now.kernel) c.error.ensures ∙ sym (unset-row (machine_with b c.args.self.now) c.args.pid c.args.signal c.args.handler none))

pub returns-requires-clause-live : goal.returns-requires-clause-live
returns-requires-clause-live c =
    let tested : c.set_handler.result ≡ true = first_of (cc, grind arith) in
    live-behind c.args.pid c.args.pid (λ h. record h { handlers = with_handler h.handlers c.args.signal c.args.handler }) c.args.self.now c.set_handler.new.self (c.set_handler.ensures.set tested) c.requires.live

pub returns-clause-carried : goal.returns-clause-carried
returns-clause-carried c =
    let tested : c.set_handler.result ≡ true = first_of (cc, grind arith) in
    let may : can_set c.args.signal c.args.handler ≡ true = sym c.set_handler.ensures.allowed ∙ tested in
    carried-by c.args.pid 0 extra.Nothing (with_handling c.args.pid (λ h. record h { handlers = with_handler h.handlers c.args.signal c.args.handler }) c.args.self.now.kernel) c.args.self.now c.returns.new.self (λ m v. handling_as m c.args.pid c.args.signal c.args.handler)
    (acted-behind c.args.pid c.args.pid (Returns 0) (λ h. record h { handlers = with_handler h.handlers c.args.signal c.args.handler }) c.args.self.now c.set_handler.new.self c.returns.new.self (c.set_handler.ensures.set tested) (c.returns.ensures (Returns 0) refl))
    (λ b v sees. set-row (machine_with b c.args.self.now) c.args.pid c.args.signal c.args.handler may)

use Rattle.std.proofs.Common.{ℕ, Option, Some, None, sym, subst, refl, ◌∙◌, ◌≡◌}
use Rattle.acts_model.specs.Acts.{Dies}
use Rattle.acts_model.specs.Bodies.{seen}
use Rattle.arn_model.specs.Kernel.{Machine}
use Rattle.arn_model.specs.Step.{Step, delivery_of, delivery_step, waits}
use Rattle.guest_calls.specs.State.{StandsFor}
use Rattle.guest_calls.specs.Steps.{DeliveredBy}
use Rattle.guest_calls.specs.declared.outcomes.Delivered.{Delivered}
use Rattle.guest_calls.proofs.Runs.{due-all, handler-all, delivery-is, delivered-dies, delivered-enters}
use Rattle.guest_calls.proofs.Stands.{machine_with, of_process, of-tables, stands-with}
use Rattle.guest_calls.proofs.kernel.Kernel.deliver.Goals as goal

pub returns-in-None-clause-delivered : goal.returns-in-None-clause-delivered
returns-in-None-clause-delivered c m v stands sees =
    subst (λ (d : Option ℕ). DeliveredBy None c.args.pid (delivery_of m c.args.pid v d) c.args.self.now c.args.self.now)
    (sym c.in-None.is ∙ due-all c.self.inside c.args.self.now c.args.pid c.self.view_is c.self.invariant c.requires.live c.due.result c.due.ensures.due m v stands sees) refl

pub returns-then-handler-eq0-clause-delivered : goal.returns-then-handler-eq0-clause-delivered
returns-then-handler-eq0-clause-delivered c =
    let found : Delivered = record { signal = c.in-Some.signal; cut = c.waits-cut.result; handler = c.handler-handler.result } in
    of_process c.args.self.now c.args.pid (λ m v. DeliveredBy (Some found) c.args.pid (delivery_step m c.args.pid v) c.args.self.now c.ends.new.self)
    (λ b v shows sees.
    let m : Machine = machine_with b c.args.self.now in
    let stands : StandsFor c.args.self.now m = stands-with c.args.self.now b shows in
    let sees' : seen b c.args.pid ≡ Some v = sym (shows.same c.args.pid) ∙ sees in
    subst (λ (s : Option Step). DeliveredBy (Some found) c.args.pid s c.args.self.now c.ends.new.self)
    (delivery-is m c.args.pid v c.in-Some.signal c.handler-handler.result c.waits-cut.result
    (sym c.in-Some.is ∙ due-all c.self.inside c.args.self.now c.args.pid c.self.view_is c.self.invariant c.requires.live c.due.result c.due.ensures.due m v stands sees')
    (of-tables c.args.self.now c.args.pid c.tables.result (λ n w. c.waits-cut.result ≡ waits n c.args.pid w) c.tables.ensures c.waits-cut.ensures m v stands sees')
    (handler-all c.self.inside c.args.self.now c.args.pid c.self.view_is c.self.invariant c.requires.live c.in-Some.signal c.handler-handler.result c.handler-handler.ensures m v stands sees'))
    (delivered-dies c.args.self.now c.ends.new.self c.args.pid v b c.in-Some.signal c.handler-handler.result c.waits-cut.result shows c.if-handler-eq0.true (c.ends.ensures (Dies c.in-Some.signal c.waits-cut.result) tt)))

pub returns-else-handler-eq0-clause-delivered : goal.returns-else-handler-eq0-clause-delivered
returns-else-handler-eq0-clause-delivered c =
    let found : Delivered = record { signal = c.in-Some.signal; cut = c.waits-cut.result; handler = c.handler-handler.result } in
    of_process c.args.self.now c.args.pid (λ m v. DeliveredBy (Some found) c.args.pid (delivery_step m c.args.pid v) c.args.self.now c.enters.new.self)
    (λ b v shows sees.
    let m : Machine = machine_with b c.args.self.now in
    let stands : StandsFor c.args.self.now m = stands-with c.args.self.now b shows in
    let sees' : seen b c.args.pid ≡ Some v = sym (shows.same c.args.pid) ∙ sees in
    subst (λ (s : Option Step). DeliveredBy (Some found) c.args.pid s c.args.self.now c.enters.new.self)
    (delivery-is m c.args.pid v c.in-Some.signal c.handler-handler.result c.waits-cut.result
    (sym c.in-Some.is ∙ due-all c.self.inside c.args.self.now c.args.pid c.self.view_is c.self.invariant c.requires.live c.due.result c.due.ensures.due m v stands sees')
    (of-tables c.args.self.now c.args.pid c.tables.result (λ n w. c.waits-cut.result ≡ waits n c.args.pid w) c.tables.ensures c.waits-cut.ensures m v stands sees')
    (handler-all c.self.inside c.args.self.now c.args.pid c.self.view_is c.self.invariant c.requires.live c.in-Some.signal c.handler-handler.result c.handler-handler.ensures m v stands sees'))
    (delivered-enters c.args.self.now c.enters.new.self c.args.pid v b c.in-Some.signal c.handler-handler.result c.waits-cut.result shows c.if-handler-eq0.false c.enters.ensures))

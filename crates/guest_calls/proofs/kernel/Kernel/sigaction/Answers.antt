use Rattle.std.proofs.Common.{◌≡◌, ◌∙◌, ℕ, false, ap, sym, is_some}
use Rattle.parts_model.specs.Signals.{is_signal}
use Rattle.arn_model.specs.Doing.{returns as returns_of}
use Rattle.arn_model.specs.SignalCalls.{sigaction_row}
use Rattle.guest_calls.specs.Handled.{handling_as}
use Rattle.guest_calls.proofs.Carries.{argument-is, carried-same}
use Rattle.guest_calls.proofs.Handled.{action-row, no-action-row}
use Rattle.guest_calls.proofs.Stands.{machine_with}
use Rattle.guest_calls.proofs.kernel.Kernel.sigaction.Goals as goal

pub returns-in-None-clause-carried : goal.returns-in-None-clause-carried
returns-in-None-clause-carried c =
    let isnt : is_signal c.argument.result ≡ false = sym c.signal_of.ensures.signal ∙ ap is_some c.in-None.is in
    carried-same c.args.pid c.answers.result c.args.self.now c.answers.new.self (λ m v. returns_of c.error.result m.kernel) (λ m v. sigaction_row m c.args.pid v) c.answers.ensures.carried
    (λ b v sees. ap (λ (a : ℕ). returns_of a c.args.self.now.kernel) c.error.ensures ∙ no-action-row (machine_with b c.args.self.now) c.args.pid v c.argument.result (argument-is c.args.self.now c.args.pid 0 c.argument.result v sees c.argument.ensures) isnt)

pub returns-in-Some-clause-carried : goal.returns-in-Some-clause-carried
returns-in-Some-clause-carried c =
    carried-same c.args.pid c.handles.result c.args.self.now c.handles.new.self (λ m v. handling_as m c.args.pid c.in-Some.signal c.argument-handler.result) (λ m v. sigaction_row m c.args.pid v) c.handles.ensures.carried
    (λ b v sees. action-row (machine_with b c.args.self.now) c.args.pid v c.in-Some.signal c.argument-handler.result
    (c.in-Some.ensures.number ∙ argument-is c.args.self.now c.args.pid 0 c.argument.result v sees c.argument.ensures)
    (argument-is c.args.self.now c.args.pid 1 c.argument-handler.result v sees c.argument-handler.ensures))

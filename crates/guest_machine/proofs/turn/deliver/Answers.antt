use Rattle.std.proofs.Common.{◌≡◌, true, Option, IfSome, subst}
use Rattle.parts_model.specs.Signals.{is_signal}
use Rattle.guest_calls.specs.declared.outcomes.Delivered.{Delivered}
use Rattle.guest_machine.proofs.Spelled.{signal-spelled}
use Rattle.guest_machine.proofs.StepLemmas.{delivered-real}
use Rattle.guest_machine.proofs.turn.deliver.Goals as goal

pub returns-in-Some-clause-real : goal.returns-in-Some-clause-real
returns-in-Some-clause-real c = (delivered-real c.args.kernel.now c.deliver.new.self c.args.pid c.deliver.result c.requires.real c.requires.live c.deliver.ensures.delivered).0

pub returns-in-Some-clause-events : goal.returns-in-Some-clause-events
returns-in-Some-clause-events c = (delivered-real c.args.kernel.now c.deliver.new.self c.args.pid c.deliver.result c.requires.real c.requires.live c.deliver.ensures.delivered).1

pub returns-in-None-clause-real : goal.returns-in-None-clause-real
returns-in-None-clause-real c = (delivered-real c.args.kernel.now c.deliver.new.self c.args.pid c.deliver.result c.requires.real c.requires.live c.deliver.ensures.delivered).0

pub returns-in-None-clause-events : goal.returns-in-None-clause-events
returns-in-None-clause-events c = (delivered-real c.args.kernel.now c.deliver.new.self c.args.pid c.deliver.result c.requires.real c.requires.live c.deliver.ensures.delivered).1

pub returns-in-Some-clause-spelled : goal.returns-in-Some-clause-spelled
returns-in-Some-clause-spelled c =
    let d : Delivered = c.in-Some.delivered in
    signal-spelled c.args.pid d.signal d.cut d.handler (subst (λ (o : Option Delivered). IfSome o (λ d. is_signal d.signal ≡ true)) c.in-Some.is c.deliver.ensures.signal)

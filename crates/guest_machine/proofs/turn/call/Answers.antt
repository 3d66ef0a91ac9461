use Rattle.std.proofs.Common.{◌≡◌}
use Rattle.std.specs.Prelude.{IsErrOf}
use Rattle.guest_calls.specs.declared.outcomes.CallStop.TheVariants as stop
use Rattle.guest_machine.proofs.Spelled.{short-spelled}
use Rattle.guest_machine.proofs.StepLemmas.{at-call-seen, call-happens, call-waits, happens-real, numbered-all}
use Rattle.guest_machine.proofs.turn.call.Goals as goal

pub perform-requires-clause-at_call : goal.perform-requires-clause-at_call
perform-requires-clause-at_call g c = at-call-seen c.args.kernel.now c.args.pid c.requires.real c.requires.at_call

pub returns-in-Ok-clause-happens : goal.returns-in-Ok-clause-happens
returns-in-Ok-clause-happens g c =
    call-happens g.A.Answers.answers c.args.answers.now c.perform.new.answers c.args.kernel.now c.perform.new.self c.args.pid c.call_number-number.result c.in-Ok.done c.requires.at_call (numbered-all c.args.kernel.now c.args.pid c.call_number-number.result c.call_number-number.ensures) c.in-Ok.ensures.performed

pub returns-in-Ok-clause-real : goal.returns-in-Ok-clause-real
returns-in-Ok-clause-real g c = (happens-real g.A.Answers.answers c.args.answers.now c.perform.new.answers c.args.kernel.now c.perform.new.self c.args.pid _ c.requires.real (returns-in-Ok-clause-happens g c)).0

pub returns-in-Ok-clause-events : goal.returns-in-Ok-clause-events
returns-in-Ok-clause-events g c = (happens-real g.A.Answers.answers c.args.answers.now c.perform.new.answers c.args.kernel.now c.perform.new.self c.args.pid _ c.requires.real (returns-in-Ok-clause-happens g c)).1

pub returns-in-Err-NotReady-clause-happens : goal.returns-in-Err-NotReady-clause-happens
returns-in-Err-NotReady-clause-happens g c =
    let not_ready : IsErrOf c.perform.result stop.NotReady = cc in
    let same : c.perform.new.self ≡ c.args.kernel.now = c.in-Err-NotReady.ensures.err in
    let unasked : c.perform.new.answers ≡ c.args.answers.now = c.in-Err-NotReady.ensures.unasked in
    call-waits g.A.Answers.answers c.args.answers.now c.perform.new.answers c.args.kernel.now c.perform.new.self c.args.pid c.requires.at_call (λ m v stands is. (c.perform.ensures.waits m v stands is).0 not_ready) unasked same

pub returns-in-Ok-clause-spelled : goal.returns-in-Ok-clause-spelled
returns-in-Ok-clause-spelled g c = short-spelled c.in-Ok.done.extra c.in-Ok.ensures.short

use Rattle.std.proofs.Common.{None, Some, IfOk, refl, subst, sym, arith}
use Rattle.arn_base.specs.declared.records.Record.{Record}
use Rattle.rv64_core.specs.declared.outcome.Outcome.{Outcome}
use Rattle.guest_machine.specs.Recorded.{OfEach}
use Rattle.guest_machine.specs.Turns.{Finishes, Happens}
use Rattle.guest_machine.proofs.RunsLemmas.{if-ok-all, on_err}
use Rattle.guest_machine.proofs.StepLemmas.{call-not-next, end-happens, end-not-next, lost-not-next}
use Rattle.guest_machine.proofs.turn.finish.Goals as goal

pub returns-in-End-clause-finishes : goal.returns-in-End-clause-finishes
returns-in-End-clause-finishes g c m stands =
    let old = c.args.kernel.now in
    let new = c.end.new.kernel in
    let asked = c.args.answers.now in
    subst (λ (o : Outcome). Finishes o g.A.Answers.answers m c.args.pid (Some c.end.result) asked asked old new) (sym c.in-End.is)
    (subst (λ (e : Record). Happens g.A.Answers.answers m c.args.pid (Some e) asked asked new) (sym c.end.ensures.record)
    (end-happens g.A.Answers.answers asked old new c.args.pid c.in-End.status (c.requires.at_end c.in-End.status c.in-End.is) c.end.ensures.ended m stands))

pub returns-in-Next-clause-finishes : goal.returns-in-Next-clause-finishes
returns-in-Next-clause-finishes g c m stands = subst (λ (o : Outcome). Finishes o g.A.Answers.answers m c.args.pid None c.args.answers.now c.args.answers.now c.args.kernel.now c.args.kernel.now) (sym c.in-Next.is) (refl, refl, refl)

pub returns-in-Next-clause-spelled : goal.returns-in-Next-clause-spelled
returns-in-Next-clause-spelled g c = tt

pub returns-in-Next-clause-real : goal.returns-in-Next-clause-real
returns-in-Next-clause-real g c = c.requires.real

pub returns-in-Next-clause-events : goal.returns-in-Next-clause-events
returns-in-Next-clause-events g c = omega arith

pub returns-in-Next-clause-err : goal.returns-in-Next-clause-err
returns-in-Next-clause-err g c = tt

pub returns-in-Next-clause-unasked : goal.returns-in-Next-clause-unasked
returns-in-Next-clause-unasked g c = tt

pub returns-in-Next-clause-called : goal.returns-in-Next-clause-called
returns-in-Next-clause-called g c = tt

pub returns-in-Next-clause-none : goal.returns-in-Next-clause-none
returns-in-Next-clause-none g c is = refl

pub returns-in-Call-clause-finishes : goal.returns-in-Call-clause-finishes
returns-in-Call-clause-finishes g c =
    subst (λ (o : Outcome). IfOk c.call.result (λ entry. OfEach c.args.kernel.now (λ m. Finishes o g.A.Answers.answers m c.args.pid entry c.args.answers.now c.call.new.answers c.args.kernel.now c.call.new.kernel))) (sym c.in-Call.is) c.call.ensures.happens

pub returns-in-Call-clause-spelled : goal.returns-in-Call-clause-spelled
returns-in-Call-clause-spelled g c = c.call.ensures.spelled

pub returns-in-Call-clause-real : goal.returns-in-Call-clause-real
returns-in-Call-clause-real g c = c.call.ensures.real

pub returns-in-Call-clause-events : goal.returns-in-Call-clause-events
returns-in-Call-clause-events g c = c.call.ensures.events

pub returns-in-Call-clause-err : goal.returns-in-Call-clause-err
returns-in-Call-clause-err g c = c.call.ensures.err

pub returns-in-Call-clause-unasked : goal.returns-in-Call-clause-unasked
returns-in-Call-clause-unasked g c = c.call.ensures.unasked

pub returns-in-Call-clause-none : goal.returns-in-Call-clause-none
returns-in-Call-clause-none g c = if-ok-all c.call.result _ (λ entry is. absurd (call-not-next c.args.outcome c.in-Call.is is))

pub returns-in-Call-clause-called : goal.returns-in-Call-clause-called
returns-in-Call-clause-called g c = on_err _ _ c.call.result _ (call-not-next c.args.outcome c.in-Call.is)

pub returns-in-End-clause-spelled : goal.returns-in-End-clause-spelled
returns-in-End-clause-spelled g c = c.end.ensures.spelled

pub returns-in-End-clause-real : goal.returns-in-End-clause-real
returns-in-End-clause-real g c = c.end.ensures.real

pub returns-in-End-clause-events : goal.returns-in-End-clause-events
returns-in-End-clause-events g c = c.end.ensures.events

pub returns-in-End-clause-err : goal.returns-in-End-clause-err
returns-in-End-clause-err g c = tt

pub returns-in-End-clause-unasked : goal.returns-in-End-clause-unasked
returns-in-End-clause-unasked g c = tt

pub returns-in-End-clause-called : goal.returns-in-End-clause-called
returns-in-End-clause-called g c = tt

pub returns-in-End-clause-none : goal.returns-in-End-clause-none
returns-in-End-clause-none g c is = absurd (end-not-next c.args.outcome c.in-End.status c.in-End.is is)

pub returns-in-NoMemory-clause-finishes : goal.returns-in-NoMemory-clause-finishes
returns-in-NoMemory-clause-finishes g c = tt

pub returns-in-NoMemory-clause-spelled : goal.returns-in-NoMemory-clause-spelled
returns-in-NoMemory-clause-spelled g c = tt

pub returns-in-NoMemory-clause-real : goal.returns-in-NoMemory-clause-real
returns-in-NoMemory-clause-real g c = c.requires.real

pub returns-in-NoMemory-clause-events : goal.returns-in-NoMemory-clause-events
returns-in-NoMemory-clause-events g c = omega arith

pub returns-in-NoMemory-clause-none : goal.returns-in-NoMemory-clause-none
returns-in-NoMemory-clause-none g c = tt

pub returns-in-NoMemory-clause-err : goal.returns-in-NoMemory-clause-err
returns-in-NoMemory-clause-err g c = refl

pub returns-in-NoMemory-clause-unasked : goal.returns-in-NoMemory-clause-unasked
returns-in-NoMemory-clause-unasked g c = refl

pub returns-in-NoMemory-clause-called : goal.returns-in-NoMemory-clause-called
returns-in-NoMemory-clause-called g c = lost-not-next c.args.outcome c.in-NoMemory.is

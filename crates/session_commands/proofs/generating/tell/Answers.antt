use Rattle.session_effects.specs.declared.halt.Halt.TheVariants as halt
use Rattle.std.proofs.Common.{◌≡◌, ◌∙◌, ◌++◌, ◌+◌, ◌≤◌, ℕ, IfErr, List, OnOk, ap, option_map, refl, subst}
use Rattle.arn_base.specs.declared.records.Record.{Record}
use Rattle.session_effects.specs.Printing.{StopsPut}
use Rattle.session_commands.proofs.AnswerLemmas.{OnOk-always, OnOk-never, falls-same, put-nothing}
use Rattle.session_commands.proofs.ChangeLemmas.{err-same}
use Rattle.session_commands.proofs.generating.tell.Goals as goal

pub returns-in_err-generated-clause-known : goal.returns-in_err-generated-clause-known
returns-in_err-generated-clause-known g c = OnOk-never _ c.from_residual.result halt.NoMemory c.from_residual.ensures.1

pub returns-in_err-generated-clause-ok : goal.returns-in_err-generated-clause-ok
returns-in_err-generated-clause-ok g c = OnOk-never _ c.from_residual.result halt.NoMemory c.from_residual.ensures.1

pub returns-in_err-generated-clause-store : goal.returns-in_err-generated-clause-store
returns-in_err-generated-clause-store g c = refl

pub returns-in_err-generated-clause-machine : goal.returns-in_err-generated-clause-machine
returns-in_err-generated-clause-machine g c = refl

pub returns-in_err-generated-clause-stops : goal.returns-in_err-generated-clause-stops
returns-in_err-generated-clause-stops g c = err-same c.from_residual.result halt.NoMemory _ c.from_residual.ensures.1 (put-nothing (g.Q.Questions.told.generated c.args.kept.now.store.entries c.args.processes) (g.K.Sink.holds c.args.sink.now))

pub returns-in_err-generated-clause-cause : goal.returns-in_err-generated-clause-cause
returns-in_err-generated-clause-cause g c = err-same c.from_residual.result halt.NoMemory _ c.from_residual.ensures.1 (λ faults. tt)

pub returns-in_err-generated-clause-faults : goal.returns-in_err-generated-clause-faults
returns-in_err-generated-clause-faults g c = falls-same (g.K.Sink.faults c.args.sink.now)

pub returns-in_err-generated-clause-steps : goal.returns-in_err-generated-clause-steps
returns-in_err-generated-clause-steps g c = subst (λ (h : List Record). c.generated.new.steps ≤ c.args.steps.now + g.Q.Questions.told.generated_cost h) c.entries.ensures c.generated.ensures.steps

pub returns-clause-known : goal.returns-clause-known
returns-clause-known g c = OnOk-always c.put_all.result (subst (λ (h : List Record). g.Q.Questions.knows c.generated.new.self h) c.entries.ensures c.in_ok-generated.ensures.known)

pub returns-clause-store : goal.returns-clause-store
returns-clause-store g c = refl

pub returns-clause-machine : goal.returns-clause-machine
returns-clause-machine g c = refl

pub returns-clause-ok : goal.returns-clause-ok
returns-clause-ok g c = subst (λ (t : List ℕ). OnOk c.put_all.result ((g.K.Sink.holds c.put_all.new.sink) ≡ option_map (λ held. held ++ t) (g.K.Sink.holds c.args.sink.now))) (c.as_bytes.ensures.value ∙ c.in_ok-generated.ensures.text ∙ ap (λ (x : List ℕ). x ++ g.Q.Questions.told.generated c.entries.result.now c.args.processes) c.clear.ensures.bytes ∙ ap (λ (h : List Record). g.Q.Questions.told.generated h c.args.processes) c.entries.ensures) c.put_all.ensures.ok

pub returns-clause-stops : goal.returns-clause-stops
returns-clause-stops g c = subst (λ (t : List ℕ). IfErr c.put_all.result (λ why. StopsPut why t (g.K.Sink.holds c.args.sink.now) (g.K.Sink.holds c.put_all.new.sink))) (c.as_bytes.ensures.value ∙ c.in_ok-generated.ensures.text ∙ ap (λ (x : List ℕ). x ++ g.Q.Questions.told.generated c.entries.result.now c.args.processes) c.clear.ensures.bytes ∙ ap (λ (h : List Record). g.Q.Questions.told.generated h c.args.processes) c.entries.ensures) c.put_all.ensures.stops

pub returns-clause-cause : goal.returns-clause-cause
returns-clause-cause g c = c.put_all.ensures.cause

pub returns-clause-faults : goal.returns-clause-faults
returns-clause-faults g c = c.put_all.ensures.faults

pub returns-clause-steps : goal.returns-clause-steps
returns-clause-steps g c = subst (λ (h : List Record). c.generated.new.steps ≤ c.args.steps.now + g.Q.Questions.told.generated_cost h) c.entries.ensures c.generated.ensures.steps

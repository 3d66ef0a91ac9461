use Rattle.session_effects.specs.declared.halt.Halt.TheVariants as halt
use Rattle.std.proofs.Common.{◌≡◌, ◌∙◌, ◌++◌, ℕ, IfErr, List, OnOk, ap, option_map, subst}
use Rattle.arn_lines.specs.Texts.{event_text}
use Rattle.session_effects.specs.Printing.{StopsPut}
use Rattle.session_commands.proofs.AnswerLemmas.{OnOk-never, falls-same, put-nothing}
use Rattle.session_commands.proofs.ChangeLemmas.{err-same}
use Rattle.session_commands.proofs.printing.print_event.Goals as goal

pub returns-in_err-push_event-clause-ok : goal.returns-in_err-push_event-clause-ok
returns-in_err-push_event-clause-ok g c = OnOk-never _ c.from_residual.result halt.NoMemory c.from_residual.ensures.1

pub returns-in_err-push_event-clause-stops : goal.returns-in_err-push_event-clause-stops
returns-in_err-push_event-clause-stops g c = err-same c.from_residual.result halt.NoMemory _ c.from_residual.ensures.1 (put-nothing (event_text c.args.event) (g.K.Sink.holds c.args.sink.now))

pub returns-in_err-push_event-clause-cause : goal.returns-in_err-push_event-clause-cause
returns-in_err-push_event-clause-cause g c = err-same c.from_residual.result halt.NoMemory _ c.from_residual.ensures.1 (λ faults. tt)

pub returns-in_err-push_event-clause-faults : goal.returns-in_err-push_event-clause-faults
returns-in_err-push_event-clause-faults g c = falls-same (g.K.Sink.faults c.args.sink.now)

pub returns-clause-ok : goal.returns-clause-ok
returns-clause-ok g c = subst (λ (t : List ℕ). OnOk c.put_all.result ((g.K.Sink.holds c.put_all.new.sink) ≡ option_map (λ held. held ++ t) (g.K.Sink.holds c.args.sink.now))) (c.as_bytes.ensures.value ∙ c.in_ok-push_event.ensures.ok ∙ ap (λ (x : List ℕ). x ++ event_text c.args.event) c.clear.ensures.bytes) c.put_all.ensures.ok

pub returns-clause-stops : goal.returns-clause-stops
returns-clause-stops g c = subst (λ (t : List ℕ). IfErr c.put_all.result (λ why. StopsPut why t (g.K.Sink.holds c.args.sink.now) (g.K.Sink.holds c.put_all.new.sink))) (c.as_bytes.ensures.value ∙ c.in_ok-push_event.ensures.ok ∙ ap (λ (x : List ℕ). x ++ event_text c.args.event) c.clear.ensures.bytes) c.put_all.ensures.stops

pub returns-clause-cause : goal.returns-clause-cause
returns-clause-cause g c = c.put_all.ensures.cause

pub returns-clause-faults : goal.returns-clause-faults
returns-clause-faults g c = c.put_all.ensures.faults

use Rattle.std.proofs.Common.{ℕ, List, ◌++◌, ◌∙◌, ap, option_map, subst, string_bytes}
use Rattle.std.proofs.lemmas.Result.{on_ok_weaker}
use Rattle.session_effects.specs.Printing.{StopsPut}
use Rattle.session_effects.specs.declared.halt.Halt.TheVariants as halt
use Rattle.session_commands.specs.Given.{given}
use Rattle.session_commands.proofs.AnswerLemmas.{err-both, put-nothing, OnOk-always, OnOk-never, falls-same}
use Rattle.session_commands.proofs.ChangeLemmas.{err-same}
use Rattle.session_commands.proofs.LineLemmas.{text-same}
use Rattle.session_commands.proofs.answering.tell.Goals as goal

pub returns-in_err-push_told-clause-stops : goal.returns-in_err-push_told-clause-stops
returns-in_err-push_told-clause-stops g c =
    err-same c.from_residual.result halt.NoMemory _ c.from_residual.ensures.1 (λ filled told is. put-nothing told (g.K.Sink.holds c.args.sink.now))

pub returns-clause-ok : goal.returns-clause-ok
returns-clause-ok g c =
    on_ok_weaker c.put_all.result
    (λ put filled told is. put
    ∙ ap (λ (t : List ℕ). option_map (λ held. held ++ t) (g.K.Sink.holds c.args.sink.now))
    (c.as_bytes.ensures.value ∙ text-same (given g.Q.Questions.told filled) c.args.kept.now.store.entries c.args.line.now (string_bytes c.push_told.new.text) told (c.in_ok-push_told.ensures.told filled) is))
    c.put_all.ensures.ok

pub returns-clause-stops : goal.returns-clause-stops
returns-clause-stops g c =
    err-both c.put_all.result _ _ _
    (λ why put again filled told is. subst (λ (t : List ℕ). StopsPut why t (g.K.Sink.holds c.args.sink.now) (g.K.Sink.holds c.put_all.new.sink))
    (c.as_bytes.ensures.value ∙ text-same (given g.Q.Questions.told filled) c.args.kept.now.store.entries c.args.line.now (string_bytes c.push_told.new.text) told (c.in_ok-push_told.ensures.told filled) is) put)
    c.put_all.ensures.stops c.put_all.ensures.stops

pub returns-in_err-push_told-clause-known : goal.returns-in_err-push_told-clause-known
returns-in_err-push_told-clause-known g c = OnOk-never _ c.from_residual.result halt.NoMemory c.from_residual.ensures.1

pub returns-in_err-push_told-clause-ok : goal.returns-in_err-push_told-clause-ok
returns-in_err-push_told-clause-ok g c = OnOk-never _ c.from_residual.result halt.NoMemory c.from_residual.ensures.1

pub returns-in_err-push_told-clause-store : goal.returns-in_err-push_told-clause-store
returns-in_err-push_told-clause-store g c = c.push_told.ensures.store

pub returns-in_err-push_told-clause-machine : goal.returns-in_err-push_told-clause-machine
returns-in_err-push_told-clause-machine g c = c.push_told.ensures.machine

pub returns-in_err-push_told-clause-cause : goal.returns-in_err-push_told-clause-cause
returns-in_err-push_told-clause-cause g c = err-same c.from_residual.result halt.NoMemory _ c.from_residual.ensures.1 (λ faults. tt)

pub returns-in_err-push_told-clause-faults : goal.returns-in_err-push_told-clause-faults
returns-in_err-push_told-clause-faults g c = falls-same (g.K.Sink.faults c.args.sink.now)

pub returns-in_err-push_told-clause-steps : goal.returns-in_err-push_told-clause-steps
returns-in_err-push_told-clause-steps g c = c.push_told.ensures.steps

pub returns-clause-known : goal.returns-clause-known
returns-clause-known g c = OnOk-always c.put_all.result c.in_ok-push_told.ensures.known

pub returns-clause-store : goal.returns-clause-store
returns-clause-store g c = c.push_told.ensures.store

pub returns-clause-machine : goal.returns-clause-machine
returns-clause-machine g c = c.push_told.ensures.machine

pub returns-clause-cause : goal.returns-clause-cause
returns-clause-cause g c = c.put_all.ensures.cause

pub returns-clause-faults : goal.returns-clause-faults
returns-clause-faults g c = c.put_all.ensures.faults

pub returns-clause-steps : goal.returns-clause-steps
returns-clause-steps g c = c.push_told.ensures.steps

pub push_told-requires-clause-known : goal.push_told-requires-clause-known
push_told-requires-clause-known g c = c.requires.known

pub push_told-requires-clause-spelled : goal.push_told-requires-clause-spelled
push_told-requires-clause-spelled g c = c.requires.spelled

pub push_told-requires-clause-needless : goal.push_told-requires-clause-needless
push_told-requires-clause-needless g c = c.requires.needless

pub push_told-requires-clause-empty : goal.push_told-requires-clause-empty
push_told-requires-clause-empty g c = c.clear.ensures.bytes

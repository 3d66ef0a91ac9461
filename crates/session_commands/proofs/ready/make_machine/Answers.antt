use Rattle.std.proofs.Common.{All, Err, List, ◌∙◌, ap, is_some, refl, subst, sym, arith}
use Rattle.arn_base.specs.declared.records.Record.{Record}
use Rattle.result_log.specs.Spelling.{HasSpelling}
use Rattle.record_match.specs.declared.differs.RebuildError.{RebuildError}
use Rattle.session_effects.specs.declared.halt.Halt.{Halt}
use Rattle.session_runs.specs.Ready.{IsNotMade}
use Rattle.session_commands.specs.Answering.{BlamesRecords}
use Rattle.session_commands.proofs.MadeLemmas.{made-cost, made-ready, none-there, not-made, not-made-blames, some-ready}
use Rattle.session_commands.proofs.ready.make_machine.Goals as goal

pub rebuild-requires : goal.rebuild-requires
rebuild-requires g c = record { spelled = subst (λ (h : List Record). All HasSpelling h) (sym c.entries.ensures) c.requires.spelled }

pub returns-then-is_some-clause-there : goal.returns-then-is_some-clause-there
returns-then-is_some-clause-there g c = some-ready c.args.kept.now.machine c.args.kept.now.store.entries (sym c.is_some.ensures ∙ c.if-is_some.true) c.requires.sound.machine

pub returns-then-is_some-clause-steps : goal.returns-then-is_some-clause-steps
returns-then-is_some-clause-steps g c = omega arith

pub returns-then-is_some-clause-store : goal.returns-then-is_some-clause-store
returns-then-is_some-clause-store g c = refl

pub returns-in-Ok-clause-store : goal.returns-in-Ok-clause-store
returns-in-Ok-clause-store g c = refl

pub returns-in-Err-clause-store : goal.returns-in-Err-clause-store
returns-in-Err-clause-store g c = refl

pub returns-then-is_some-clause-questions : goal.returns-then-is_some-clause-questions
returns-then-is_some-clause-questions g c = refl

pub returns-in-Ok-clause-questions : goal.returns-in-Ok-clause-questions
returns-in-Ok-clause-questions g c = refl

pub returns-in-Err-clause-questions : goal.returns-in-Err-clause-questions
returns-in-Err-clause-questions g c = refl

pub returns-then-is_some-clause-not_made : goal.returns-then-is_some-clause-not_made
returns-then-is_some-clause-not_made g c = tt

pub returns-in-Ok-clause-not_made : goal.returns-in-Ok-clause-not_made
returns-in-Ok-clause-not_made g c = tt

pub returns-then-is_some-clause-absent : goal.returns-then-is_some-clause-absent
returns-then-is_some-clause-absent g c = tt

pub returns-in-Ok-clause-absent : goal.returns-in-Ok-clause-absent
returns-in-Ok-clause-absent g c = tt

pub returns-then-is_some-clause-blames : goal.returns-then-is_some-clause-blames
returns-then-is_some-clause-blames g c = tt

pub returns-in-Ok-clause-blames : goal.returns-in-Ok-clause-blames
returns-in-Ok-clause-blames g c = tt

pub returns-in-Ok-clause-there : goal.returns-in-Ok-clause-there
returns-in-Ok-clause-there g c = made-ready c.in-Ok.machine c.insert.result.now c.entries.result.now c.args.kept.now.store.entries c.insert.ensures.value c.entries.ensures c.in-Ok.ensures.leads c.in-Ok.ensures.is_run

pub returns-in-Ok-clause-steps : goal.returns-in-Ok-clause-steps
returns-in-Ok-clause-steps g c = made-cost (is_some c.args.kept.now.machine) c.entries.result.now c.args.kept.now.store.entries c.args.steps.now c.rebuild.new.steps (sym c.is_some.ensures ∙ c.if-is_some.false) c.entries.ensures c.rebuild.ensures.steps

pub returns-in-Err-clause-steps : goal.returns-in-Err-clause-steps
returns-in-Err-clause-steps g c = made-cost (is_some c.args.kept.now.machine) c.entries.result.now c.args.kept.now.store.entries c.args.steps.now c.rebuild.new.steps (sym c.is_some.ensures ∙ c.if-is_some.false) c.entries.ensures c.rebuild.ensures.steps

pub returns-in-Err-clause-there : goal.returns-in-Err-clause-there
returns-in-Err-clause-there g c = tt

pub returns-in-Err-clause-absent : goal.returns-in-Err-clause-absent
returns-in-Err-clause-absent g c = none-there c.args.kept.now.machine (sym c.is_some.ensures ∙ c.if-is_some.false)

pub returns-in-Err-clause-not_made : goal.returns-in-Err-clause-not_made
returns-in-Err-clause-not_made g c = subst IsNotMade (sym c.rebuild_halt.ensures) (not-made c.in-Err.error)

pub returns-in-Err-clause-blames : goal.returns-in-Err-clause-blames
returns-in-Err-clause-blames g c = subst (λ (why : Halt). BlamesRecords why c.args.kept.now.store.entries) (sym c.rebuild_halt.ensures) (not-made-blames c.in-Err.error c.entries.result.now c.args.kept.now.store.entries c.entries.ensures (λ d is. c.in-Err.ensures.differs d (ap (λ (e : RebuildError). Err e) is)) (λ d is. c.in-Err.ensures.not_run d (ap (λ (e : RebuildError). Err e) is)))

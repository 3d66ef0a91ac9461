use Rattle.std.proofs.Common.{◌≡◌, ◌∙◌, None, is_none, is_some, refl, sym, arith, List, length, ap, subst, All}
use Rattle.arn_commands.specs.declared.command.Command.TheVariants.{Generates}
use Rattle.session_runs.specs.Touches.{answering}
use Rattle.session_commands.specs.Given.{given}
use Rattle.session_commands.proofs.AnswerLemmas.{OnOk-always, OnOk-never, blames-not-made, cause-blames, disk-cause, err-both, falls-same, goes-same, halted-not-made, not-made-cause, or-true, text-cause}
use Rattle.session_commands.proofs.GeneratedLemmas.{answered-told, cost-made, halted-told, halted-unheard, halted-untold, still-generator, turn-generator}
use Rattle.arn_base.specs.declared.records.Record.{Record}
use Rattle.log_store.specs.Stores.{StoreState}
use Rattle.result_log.specs.Spelling.{HasSpelling}
use Rattle.session_effects.specs.Effects.{committed}
use Rattle.session_effects.specs.Standing.{IsOpen}
use Rattle.session_effects.specs.declared.halt.Halt.TheVariants as halt
use Rattle.session_runs.specs.Points.{around}
use Rattle.session_runs.specs.Standing.{standpoint}
use Rattle.session_commands.specs.Kept.{IsThere}
use Rattle.session_commands.specs.Lines.{turn}
use Rattle.session_commands.specs.Refusals.{generator_refusal}
use Rattle.std.proofs.lemmas.Result.{on_ok_weaker}
use Rattle.session_commands.proofs.ChangeLemmas.{err-same, few-known, heard-before, sound-there, there-run, there-some}
use Rattle.session_commands.proofs.TurnLemmas.{IsStill}
use Rattle.session_commands.proofs.generating.answer_generator.Goals as goal

pub returns-in_err-make_machine-clause-halted : goal.returns-in_err-make_machine-clause-halted
returns-in_err-make_machine-clause-halted g c =
    let why = c.in_err-make_machine.field-0.0 in
    let still : IsStill (turn (given g.Q.Questions.told (g.A.Plugs.filled c.args.outside.now.answers.now)) c.args.kept.now.store.entries (Generates c.args.image.now c.args.typed.now c.args.processes)) =
    subst IsStill (sym (turn-generator (given g.Q.Questions.told (g.A.Plugs.filled c.args.outside.now.answers.now)) c.args.kept.now.store.entries c.args.image.now c.args.typed.now c.args.processes c.requires.accepted)) (still-generator g.Q.Questions.told c.args.kept.now.store.entries c.args.image.now c.args.typed.now c.args.processes) in
    err-same c.from_residual.result why _ c.from_residual.ensures.1
    (halted-not-made g.D.Disk (answering g.A.Answers.answers g.A.Plugs.unplugs g.A.Plugs.filled) (given g.Q.Questions.told (g.A.Plugs.filled c.args.outside.now.answers.now)) (is_some c.args.kept.now.machine) (Generates c.args.image.now c.args.typed.now c.args.processes) (g.C.Chooser.choices c.args.outside.now.chooser.now) c.args.outside.now.answers.now c.halts_follow.ensures why c.args.outside.now.disk.now c.args.kept.now.store c.make_machine.new.kept.store (g.K.Sink.holds c.args.outside.now.sink.now) c.args.outside.now.steps.now c.make_machine.new.steps c.in_err-make_machine.ensures.not_made c.make_machine.ensures.store still c.make_machine.ensures.steps
    (λ behind. cost-made (given g.Q.Questions.told (g.A.Plugs.filled c.args.outside.now.answers.now)) c.args.kept.now.store.entries c.args.image.now c.args.typed.now c.args.processes (is_some c.args.kept.now.machine) behind c.requires.accepted))

pub returns-in_err-perform-clause-halted : goal.returns-in_err-perform-clause-halted
returns-in_err-perform-clause-halted g c =
    let why = c.in_err-perform.field-0.0 in
    let n = c.perform.new in
    err-same c.from_residual-in_err-perform.result why _ c.from_residual-in_err-perform.ensures.1
    (halted-untold g.D.Disk (answering g.A.Answers.answers g.A.Plugs.unplugs g.A.Plugs.filled) (given g.Q.Questions.told (g.A.Plugs.filled c.args.outside.now.answers.now)) (is_some c.args.kept.now.machine) c.args.image.now c.args.typed.now c.args.processes c.args.kept.now.store c.requires.accepted c.effects_follow.ensures.follow c.halts_follow.ensures c.points_follow.ensures (g.C.Chooser.choices c.args.outside.now.chooser.now) c.args.outside.now.answers.now c.args.outside.now.steps.now c.make_machine.new.steps c.make_machine.ensures.steps
    c.args.outside.now.disk.now (g.K.Sink.holds c.args.outside.now.sink.now) c.requires.«open» (there-run c.make_machine.new.kept.machine c.args.kept.now.store.entries c.in_ok-make_machine.ensures.there) c.make_machine.new.kept.store c.make_machine.ensures.store
    n.outside.disk.now n.kept.store (g.K.Sink.holds n.outside.sink.now) why (around (g.C.Chooser.choices n.outside.chooser.now) n.outside.answers.now n.outside.steps.now) (c.in_err-perform.ensures.stops g.Q.Questions.told c.args.processes))

pub returns-in_err-perform-clause-blames : goal.returns-in_err-perform-clause-blames
returns-in_err-perform-clause-blames g c =
    let why = c.in_err-perform.field-0.0 in
    err-same c.from_residual-in_err-perform.result why _ c.from_residual-in_err-perform.ensures.1
    (cause-blames (given g.Q.Questions.told (g.A.Plugs.filled c.args.outside.now.answers.now)) (is_some c.args.kept.now.machine) (Generates c.args.image.now c.args.typed.now c.args.processes) why _ _ _ _ (standpoint c.args.outside.now.disk.now c.args.kept.now.store (g.K.Sink.holds c.args.outside.now.sink.now) (around (g.C.Chooser.choices c.args.outside.now.chooser.now) c.args.outside.now.answers.now c.args.outside.now.steps.now)) (standpoint c.perform.new.outside.disk.now c.perform.new.kept.store (g.K.Sink.holds c.perform.new.outside.sink.now) (around (g.C.Chooser.choices c.perform.new.outside.chooser.now) c.perform.new.outside.answers.now c.perform.new.outside.steps.now)) (c.in_err-perform.ensures.cause 0))

pub returns-in_err-perform-clause-cause : goal.returns-in_err-perform-clause-cause
returns-in_err-perform-clause-cause g c =
    let why = c.in_err-perform.field-0.0 in
    err-same c.from_residual-in_err-perform.result why _ c.from_residual-in_err-perform.ensures.1 (disk-cause why _ _ _ _ c.in_err-perform.ensures.cause)

pub returns-in_err-tell_questions-clause-halted : goal.returns-in_err-tell_questions-clause-halted
returns-in_err-tell_questions-clause-halted g c =
    let n = c.perform.new in
    err-same c.from_residual-in_err-tell_questions.result halt.NoMemory _ c.from_residual-in_err-tell_questions.ensures.1
    (halted-unheard g.D.Disk (answering g.A.Answers.answers g.A.Plugs.unplugs g.A.Plugs.filled) (given g.Q.Questions.told (g.A.Plugs.filled c.args.outside.now.answers.now)) (is_some c.args.kept.now.machine) c.args.image.now c.args.typed.now c.args.processes c.args.kept.now.store c.requires.accepted c.effects_follow.ensures.follow c.halts_follow.ensures c.points_follow.ensures (g.C.Chooser.choices c.args.outside.now.chooser.now) c.args.outside.now.answers.now c.args.outside.now.steps.now c.make_machine.new.steps c.make_machine.ensures.steps
    c.args.outside.now.disk.now (g.K.Sink.holds c.args.outside.now.sink.now) c.requires.«open» (there-run c.make_machine.new.kept.machine c.args.kept.now.store.entries c.in_ok-make_machine.ensures.there) c.make_machine.new.kept.store c.make_machine.ensures.store
    n.outside.disk.now n.kept.store c.tell_questions.new.kept.store (g.K.Sink.holds n.outside.sink.now) (g.C.Chooser.choices n.outside.chooser.now) n.outside.answers.now n.outside.steps.now (c.in_ok-perform.ensures.advances g.Q.Questions.told c.args.processes))

pub returns-clause-answered : goal.returns-clause-answered
returns-clause-answered g c =
    let n = c.perform.new in
    answered-told g.D.Disk (answering g.A.Answers.answers g.A.Plugs.unplugs g.A.Plugs.filled) (given g.Q.Questions.told (g.A.Plugs.filled c.args.outside.now.answers.now)) (is_some c.args.kept.now.machine) c.args.image.now c.args.typed.now c.args.processes c.args.kept.now.store c.requires.accepted c.effects_follow.ensures.follow c.halts_follow.ensures c.points_follow.ensures (g.C.Chooser.choices c.args.outside.now.chooser.now) c.args.outside.now.answers.now c.args.outside.now.steps.now c.make_machine.new.steps c.make_machine.ensures.steps
    c.args.outside.now.disk.now (g.K.Sink.holds c.args.outside.now.sink.now) c.requires.«open» (there-run c.make_machine.new.kept.machine c.args.kept.now.store.entries c.in_ok-make_machine.ensures.there) c.make_machine.new.kept.store c.make_machine.ensures.store
    c.tell.result n.outside.disk.now n.kept.store c.tell_questions.new.kept.store c.tell.new.kept.store (g.K.Sink.holds n.outside.sink.now) (g.K.Sink.holds c.tell.new.sink) (g.C.Chooser.choices n.outside.chooser.now) n.outside.answers.now n.outside.steps.now c.tell.new.steps c.tell_questions.ensures.store c.tell.ensures.store (c.in_ok-perform.ensures.advances g.Q.Questions.told c.args.processes) c.tell.ensures.steps c.tell.ensures.ok

pub returns-clause-halted : goal.returns-clause-halted
returns-clause-halted g c =
    let n = c.perform.new in
    err-both c.tell.result _ _ _
    (λ why put again. halted-told g.D.Disk (answering g.A.Answers.answers g.A.Plugs.unplugs g.A.Plugs.filled) (given g.Q.Questions.told (g.A.Plugs.filled c.args.outside.now.answers.now)) (is_some c.args.kept.now.machine) c.args.image.now c.args.typed.now c.args.processes c.args.kept.now.store c.requires.accepted c.effects_follow.ensures.follow c.halts_follow.ensures c.points_follow.ensures (g.C.Chooser.choices c.args.outside.now.chooser.now) c.args.outside.now.answers.now c.args.outside.now.steps.now c.make_machine.new.steps c.make_machine.ensures.steps
    c.args.outside.now.disk.now (g.K.Sink.holds c.args.outside.now.sink.now) c.requires.«open» (there-run c.make_machine.new.kept.machine c.args.kept.now.store.entries c.in_ok-make_machine.ensures.there) c.make_machine.new.kept.store c.make_machine.ensures.store
    n.outside.disk.now n.kept.store c.tell_questions.new.kept.store c.tell.new.kept.store (g.K.Sink.holds n.outside.sink.now) (g.K.Sink.holds c.tell.new.sink) why (g.C.Chooser.choices n.outside.chooser.now) n.outside.answers.now n.outside.steps.now c.tell.new.steps c.tell_questions.ensures.store (c.in_ok-perform.ensures.advances g.Q.Questions.told c.args.processes) c.tell.ensures.steps put)
    c.tell.ensures.stops c.tell.ensures.stops

pub returns-clause-cause : goal.returns-clause-cause
returns-clause-cause g c =
    let causes = c.causes_follow.ensures in
    let gone = c.perform.ensures.goes_on in
    err-both c.tell.result _ _ _
    (λ why cause again. text-cause why _ _ _ _ (λ faults. causes.cause why faults faults faults _ _ _ (causes.still faults) (causes.still faults) gone.faults c.tell.ensures.faults (cause faults)))
    c.tell.ensures.cause c.tell.ensures.cause

pub returns-clause-goes_on : goal.returns-clause-goes_on
returns-clause-goes_on g c =
    let gone = c.perform.ensures.goes_on in
    record { later = gone.later; faults = c.causes_follow.ensures.falls _ _ _ gone.faults c.tell.ensures.faults; same = record { chooser = gone.same.chooser; answers = gone.same.answers; disk = gone.same.disk; sink = gone.same.sink; steps = gone.same.steps; text = gone.same.text } }

pub tell_questions-requires-clause-inside : goal.tell_questions-requires-clause-inside
tell_questions-requires-clause-inside g c =
    let p = c.in_ok-perform.ensures.advances g.Q.Questions.told c.args.processes in
    omega (
      arith,
      few-known c.make_machine.new.kept.store.entries c.perform.new.kept.store.entries (committed p.effects) p.carries.entries,
      ap (λ (x : List Record). length x) c.entries-known.ensures,
    )

pub tell_questions-requires-clause-known : goal.tell_questions-requires-clause-known
tell_questions-requires-clause-known g c =
    let p = c.in_ok-perform.ensures.advances g.Q.Questions.told c.args.processes in
    heard-before _ g.Q.Questions.knows c.args.kept.now.questions c.perform.new.kept.questions c.args.kept.now.store c.make_machine.new.kept.store c.perform.new.kept.store c.entries-known.result.now c.perform.new.kept.store.entries (committed p.effects) (length c.entries-known.result.now)
    c.requires.sound.questions (c.perform.ensures.questions ∙ c.make_machine.ensures.questions) c.make_machine.ensures.store c.entries-known.ensures refl refl p.carries.entries

pub tell-requires-clause-spelled : goal.tell-requires-clause-spelled
tell-requires-clause-spelled g c =
    subst (λ (s : StoreState). All HasSpelling s.entries) (sym c.tell_questions.ensures.store)
    (c.in_ok-perform.ensures.advances g.Q.Questions.told c.args.processes).carries.stays_open.spelled

pub returns-clause-sound : goal.returns-clause-sound
returns-clause-sound g c =
    on_ok_weaker c.tell.result
    (λ known. sound-there g.Q.Questions.knows c.perform.new.kept.machine c.tell.new.kept.machine c.tell.new.kept.questions c.perform.new.kept.store c.tell.new.kept.store c.in_ok-perform.ensures.there (c.tell.ensures.machine ∙ c.tell_questions.ensures.machine) (c.tell.ensures.store ∙ c.tell_questions.ensures.store)
    (subst (λ (s : StoreState). g.Q.Questions.knows c.tell.new.kept.questions s.entries) c.tell_questions.ensures.store known))
    c.tell.ensures.known

pub returns-clause-there : goal.returns-clause-there
returns-clause-there g c =
    OnOk-always c.tell.result
    (ap is_some (c.tell.ensures.machine ∙ c.tell_questions.ensures.machine) ∙ there-some c.perform.new.kept.machine c.perform.new.kept.store.entries c.in_ok-perform.ensures.there
    ∙ or-true (is_some c.args.kept.now.machine) _ (ap is_none c.requires.accepted))

pub tell_questions-requires-clause-run : goal.tell_questions-requires-clause-run
tell_questions-requires-clause-run g c = there-run c.perform.new.kept.machine c.perform.new.kept.store.entries c.in_ok-perform.ensures.there

pub returns-in_err-make_machine-clause-sound : goal.returns-in_err-make_machine-clause-sound
returns-in_err-make_machine-clause-sound g c = OnOk-never _ c.from_residual.result c.in_err-make_machine.field-0.0 c.from_residual.ensures.1

pub returns-in_err-make_machine-clause-there : goal.returns-in_err-make_machine-clause-there
returns-in_err-make_machine-clause-there g c = OnOk-never _ c.from_residual.result c.in_err-make_machine.field-0.0 c.from_residual.ensures.1

pub returns-in_err-make_machine-clause-answered : goal.returns-in_err-make_machine-clause-answered
returns-in_err-make_machine-clause-answered g c = OnOk-never _ c.from_residual.result c.in_err-make_machine.field-0.0 c.from_residual.ensures.1

pub returns-in_err-make_machine-clause-goes_on : goal.returns-in_err-make_machine-clause-goes_on
returns-in_err-make_machine-clause-goes_on g c = record { later = goes-same g.D.Disk.image g.D.Disk.faults c.args.outside.now.disk.now; faults = falls-same (g.K.Sink.faults c.args.outside.now.sink.now); same = record { chooser = refl; answers = refl; disk = refl; sink = refl; steps = refl; text = refl } }

pub returns-in_err-perform-clause-sound : goal.returns-in_err-perform-clause-sound
returns-in_err-perform-clause-sound g c = OnOk-never _ c.from_residual-in_err-perform.result c.in_err-perform.field-0.0 c.from_residual-in_err-perform.ensures.1

pub returns-in_err-perform-clause-there : goal.returns-in_err-perform-clause-there
returns-in_err-perform-clause-there g c = OnOk-never _ c.from_residual-in_err-perform.result c.in_err-perform.field-0.0 c.from_residual-in_err-perform.ensures.1

pub returns-in_err-perform-clause-answered : goal.returns-in_err-perform-clause-answered
returns-in_err-perform-clause-answered g c = OnOk-never _ c.from_residual-in_err-perform.result c.in_err-perform.field-0.0 c.from_residual-in_err-perform.ensures.1

pub returns-in_err-perform-clause-goes_on : goal.returns-in_err-perform-clause-goes_on
returns-in_err-perform-clause-goes_on g c =
    let gone = c.perform.ensures.goes_on in
    record { later = gone.later; faults = gone.faults; same = record { chooser = gone.same.chooser; answers = gone.same.answers; disk = gone.same.disk; sink = gone.same.sink; steps = gone.same.steps; text = gone.same.text } }

pub returns-in_err-tell_questions-clause-sound : goal.returns-in_err-tell_questions-clause-sound
returns-in_err-tell_questions-clause-sound g c = OnOk-never _ c.from_residual-in_err-tell_questions.result halt.NoMemory c.from_residual-in_err-tell_questions.ensures.1

pub returns-in_err-tell_questions-clause-there : goal.returns-in_err-tell_questions-clause-there
returns-in_err-tell_questions-clause-there g c = OnOk-never _ c.from_residual-in_err-tell_questions.result halt.NoMemory c.from_residual-in_err-tell_questions.ensures.1

pub returns-in_err-tell_questions-clause-answered : goal.returns-in_err-tell_questions-clause-answered
returns-in_err-tell_questions-clause-answered g c = OnOk-never _ c.from_residual-in_err-tell_questions.result halt.NoMemory c.from_residual-in_err-tell_questions.ensures.1

pub returns-in_err-tell_questions-clause-goes_on : goal.returns-in_err-tell_questions-clause-goes_on
returns-in_err-tell_questions-clause-goes_on g c =
    let gone = c.perform.ensures.goes_on in
    record { later = gone.later; faults = gone.faults; same = record { chooser = gone.same.chooser; answers = gone.same.answers; disk = gone.same.disk; sink = gone.same.sink; steps = gone.same.steps; text = gone.same.text } }

pub returns-in_err-make_machine-clause-blames : goal.returns-in_err-make_machine-clause-blames
returns-in_err-make_machine-clause-blames g c =
    let why = c.in_err-make_machine.field-0.0 in
    err-same c.from_residual.result why _ c.from_residual.ensures.1
    (blames-not-made (given g.Q.Questions.told (g.A.Plugs.filled c.args.outside.now.answers.now)) (is_some c.args.kept.now.machine) (Generates c.args.image.now c.args.typed.now c.args.processes) (g.C.Chooser.choices c.args.outside.now.chooser.now) c.args.outside.now.answers.now why c.args.outside.now.disk.now c.args.kept.now.store c.make_machine.new.kept.store (g.K.Sink.holds c.args.outside.now.sink.now) c.args.outside.now.steps.now c.make_machine.new.steps c.in_err-make_machine.ensures.not_made c.make_machine.ensures.store c.in_err-make_machine.ensures.blames (ap is_some c.in_err-make_machine.ensures.absent) (ap is_none c.requires.accepted) c.make_machine.ensures.steps)

pub returns-in_err-make_machine-clause-cause : goal.returns-in_err-make_machine-clause-cause
returns-in_err-make_machine-clause-cause g c =
    let why = c.in_err-make_machine.field-0.0 in
    err-same c.from_residual.result why _ c.from_residual.ensures.1 (not-made-cause why (g.D.Disk.faults c.args.outside.now.disk.now) (g.D.Disk.faults c.args.outside.now.disk.now) (g.K.Sink.faults c.args.outside.now.sink.now) (g.K.Sink.faults c.args.outside.now.sink.now) c.in_err-make_machine.ensures.not_made)

pub returns-in_err-tell_questions-clause-blames : goal.returns-in_err-tell_questions-clause-blames
returns-in_err-tell_questions-clause-blames g c = err-same c.from_residual-in_err-tell_questions.result halt.NoMemory _ c.from_residual-in_err-tell_questions.ensures.1 tt

pub returns-in_err-tell_questions-clause-cause : goal.returns-in_err-tell_questions-clause-cause
returns-in_err-tell_questions-clause-cause g c = err-same c.from_residual-in_err-tell_questions.result halt.NoMemory _ c.from_residual-in_err-tell_questions.ensures.1 tt

pub make_machine-requires-clause-sound : goal.make_machine-requires-clause-sound
make_machine-requires-clause-sound g c = c.requires.sound

pub make_machine-requires-clause-spelled : goal.make_machine-requires-clause-spelled
make_machine-requires-clause-spelled g c = c.requires.«open».spelled

pub perform-requires-clause-open : goal.perform-requires-clause-open
perform-requires-clause-open g c = subst (λ (s : StoreState). IsOpen g.D.Disk s c.args.outside.now.disk.now) (sym c.make_machine.ensures.store) c.requires.«open»

pub perform-requires-clause-there : goal.perform-requires-clause-there
perform-requires-clause-there g c = subst (λ (s : StoreState). IsThere c.make_machine.new.kept.machine s.entries) (sym c.make_machine.ensures.store) c.in_ok-make_machine.ensures.there

pub perform-requires-clause-image : goal.perform-requires-clause-image
perform-requires-clause-image g c = c.requires.image

pub perform-requires-clause-typed : goal.perform-requires-clause-typed
perform-requires-clause-typed g c = c.requires.typed

pub perform-requires-clause-accepted : goal.perform-requires-clause-accepted
perform-requires-clause-accepted g c = subst (λ (s : StoreState). generator_refusal s.entries ≡ None) (sym c.make_machine.ensures.store) c.requires.accepted

pub tell-requires-clause-known : goal.tell-requires-clause-known
tell-requires-clause-known g c = subst (λ (s : StoreState). g.Q.Questions.knows c.tell_questions.new.kept.questions s.entries) (sym c.tell_questions.ensures.store) c.in_ok-tell_questions.ensures.questions

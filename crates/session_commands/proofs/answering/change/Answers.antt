use Rattle.std.proofs.Common.{◌≡◌, List, None, length, ap, ◌∙◌, is_some, refl, subst, sym, arith, true}
use Rattle.arn_base.specs.declared.records.Record.{Record}
use Rattle.arn_commands.specs.declared.command.Command.TheVariants.{Says}
use Rattle.log_store.specs.Stores.{StoreState}
use Rattle.session_effects.specs.Effects.{committed}
use Rattle.session_effects.specs.Standing.{IsOpen}
use Rattle.session_effects.specs.declared.halt.Halt.TheVariants as halt
use Rattle.session_runs.specs.Points.{around}
use Rattle.session_runs.specs.Standing.{standpoint}
use Rattle.session_commands.specs.Kept.{IsThere}
use Rattle.session_commands.specs.Lines.{turn}
use Rattle.session_commands.specs.Rows.{row_of}
use Rattle.session_runs.specs.Touches.{answering}
use Rattle.session_commands.specs.Given.{given}
use Rattle.session_commands.proofs.AnswerLemmas.{OnOk-never, blames-not-made, cause-blames, falls-same, goes-same, halted-not-made, line-cause, not-made-cause}
use Rattle.session_commands.proofs.ChangeLemmas.{advances-changed, err-same, few-known, halted-changed, halted-unheard, heard-before, sound-there, there-run, there-some}
use Rattle.session_commands.proofs.LineLemmas.{cost-machine, needs-one, still-line, turn-line}
use Rattle.session_commands.proofs.TurnLemmas.{IsStill}
use Rattle.session_commands.proofs.answering.change.Goals as goal

pub returns-in_err-make_machine-clause-halted : goal.returns-in_err-make_machine-clause-halted
returns-in_err-make_machine-clause-halted g c =
    let why = c.in_err-make_machine.field-0.0 in
    let still : IsStill (turn (given g.Q.Questions.told (g.A.Plugs.filled c.args.outside.now.answers.now)) c.args.kept.now.store.entries (Says c.args.line.now)) = subst IsStill (sym (turn-line (given g.Q.Questions.told (g.A.Plugs.filled c.args.outside.now.answers.now)) c.args.kept.now.store.entries c.args.line.now c.requires.accepted)) (still-line (given g.Q.Questions.told (g.A.Plugs.filled c.args.outside.now.answers.now)) c.args.kept.now.store.entries c.args.line.now) in
    err-same c.from_residual.result why _ c.from_residual.ensures.1
    (halted-not-made g.D.Disk (answering g.A.Answers.answers g.A.Plugs.unplugs g.A.Plugs.filled) (given g.Q.Questions.told (g.A.Plugs.filled c.args.outside.now.answers.now)) (is_some c.args.kept.now.machine) (Says c.args.line.now) (g.C.Chooser.choices c.args.outside.now.chooser.now) c.args.outside.now.answers.now c.halts_follow.ensures why c.args.outside.now.disk.now c.args.kept.now.store c.make_machine.new.kept.store (g.K.Sink.holds c.args.outside.now.sink.now) c.args.outside.now.steps.now c.make_machine.new.steps c.in_err-make_machine.ensures.not_made c.make_machine.ensures.store still c.make_machine.ensures.steps
    (λ behind. cost-machine (given g.Q.Questions.told (g.A.Plugs.filled c.args.outside.now.answers.now)) (is_some c.args.kept.now.machine) c.args.kept.now.store.entries behind c.args.line.now (c.requires.needs (given g.Q.Questions.told (g.A.Plugs.filled c.args.outside.now.answers.now))) c.requires.accepted))

pub returns-in_err-make_machine-clause-blames : goal.returns-in_err-make_machine-clause-blames
returns-in_err-make_machine-clause-blames g c =
    let why = c.in_err-make_machine.field-0.0 in
    err-same c.from_residual.result why _ c.from_residual.ensures.1
    (blames-not-made (given g.Q.Questions.told (g.A.Plugs.filled c.args.outside.now.answers.now)) (is_some c.args.kept.now.machine) (Says c.args.line.now) (g.C.Chooser.choices c.args.outside.now.chooser.now) c.args.outside.now.answers.now why c.args.outside.now.disk.now c.args.kept.now.store c.make_machine.new.kept.store (g.K.Sink.holds c.args.outside.now.sink.now) c.args.outside.now.steps.now c.make_machine.new.steps c.in_err-make_machine.ensures.not_made c.make_machine.ensures.store c.in_err-make_machine.ensures.blames (ap is_some c.in_err-make_machine.ensures.absent)
    (needs-one (given g.Q.Questions.told (g.A.Plugs.filled c.args.outside.now.answers.now)) c.args.kept.now.store.entries c.args.line.now (c.requires.needs (given g.Q.Questions.told (g.A.Plugs.filled c.args.outside.now.answers.now))) c.requires.accepted) c.make_machine.ensures.steps)

pub returns-in_err-make_machine-clause-cause : goal.returns-in_err-make_machine-clause-cause
returns-in_err-make_machine-clause-cause g c =
    let why = c.in_err-make_machine.field-0.0 in
    err-same c.from_residual.result why _ c.from_residual.ensures.1 (not-made-cause why (g.D.Disk.faults c.args.outside.now.disk.now) (g.D.Disk.faults c.args.outside.now.disk.now) (g.K.Sink.faults c.args.outside.now.sink.now) (g.K.Sink.faults c.args.outside.now.sink.now) c.in_err-make_machine.ensures.not_made)

pub returns-in_err-carry_out-clause-halted : goal.returns-in_err-carry_out-clause-halted
returns-in_err-carry_out-clause-halted g c =
    let why = c.in_err-carry_out.field-0.0 in
    let n = c.carry_out.new in
    err-same c.from_residual-in_err-carry_out.result why _ c.from_residual-in_err-carry_out.ensures.1
    (halted-changed g.D.Disk (answering g.A.Answers.answers g.A.Plugs.unplugs g.A.Plugs.filled) (given g.Q.Questions.told (g.A.Plugs.filled c.args.outside.now.answers.now)) (is_some c.args.kept.now.machine) c.args.line.now c.args.kept.now.store (c.requires.needs (given g.Q.Questions.told (g.A.Plugs.filled c.args.outside.now.answers.now))) c.requires.accepted c.effects_follow.ensures.follow c.halts_follow.ensures c.points_follow.ensures (g.C.Chooser.choices c.args.outside.now.chooser.now) c.args.outside.now.answers.now c.args.outside.now.steps.now c.make_machine.new.steps c.make_machine.ensures.steps
    c.args.outside.now.disk.now (g.K.Sink.holds c.args.outside.now.sink.now) c.requires.«open» (there-run c.make_machine.new.kept.machine c.args.kept.now.store.entries c.in_ok-make_machine.ensures.there) c.make_machine.new.kept.store c.make_machine.ensures.store
    n.outside.disk.now n.kept.store (g.K.Sink.holds n.outside.sink.now) why (around (g.C.Chooser.choices n.outside.chooser.now) n.outside.answers.now n.outside.steps.now) (c.in_err-carry_out.ensures.stops g.Q.Questions.told))

pub returns-in_err-carry_out-clause-blames : goal.returns-in_err-carry_out-clause-blames
returns-in_err-carry_out-clause-blames g c =
    let why = c.in_err-carry_out.field-0.0 in
    err-same c.from_residual-in_err-carry_out.result why _ c.from_residual-in_err-carry_out.ensures.1
    (cause-blames (given g.Q.Questions.told (g.A.Plugs.filled c.args.outside.now.answers.now)) (is_some c.args.kept.now.machine) (Says c.args.line.now) why _ _ _ _ (standpoint c.args.outside.now.disk.now c.args.kept.now.store (g.K.Sink.holds c.args.outside.now.sink.now) (around (g.C.Chooser.choices c.args.outside.now.chooser.now) c.args.outside.now.answers.now c.args.outside.now.steps.now)) (standpoint c.carry_out.new.outside.disk.now c.carry_out.new.kept.store (g.K.Sink.holds c.carry_out.new.outside.sink.now) (around (g.C.Chooser.choices c.carry_out.new.outside.chooser.now) c.carry_out.new.outside.answers.now c.carry_out.new.outside.steps.now)) c.in_err-carry_out.ensures.cause)

pub returns-in_err-carry_out-clause-cause : goal.returns-in_err-carry_out-clause-cause
returns-in_err-carry_out-clause-cause g c =
    let why = c.in_err-carry_out.field-0.0 in
    err-same c.from_residual-in_err-carry_out.result why _ c.from_residual-in_err-carry_out.ensures.1 (line-cause why _ _ _ _ c.in_err-carry_out.ensures.cause)

pub returns-in_err-tell_questions-clause-halted : goal.returns-in_err-tell_questions-clause-halted
returns-in_err-tell_questions-clause-halted g c =
    let n = c.carry_out.new in
    err-same c.from_residual-in_err-tell_questions.result halt.NoMemory _ c.from_residual-in_err-tell_questions.ensures.1
    (halted-unheard g.D.Disk (answering g.A.Answers.answers g.A.Plugs.unplugs g.A.Plugs.filled) (given g.Q.Questions.told (g.A.Plugs.filled c.args.outside.now.answers.now)) (is_some c.args.kept.now.machine) c.args.line.now c.args.kept.now.store (c.requires.needs (given g.Q.Questions.told (g.A.Plugs.filled c.args.outside.now.answers.now))) c.requires.accepted c.effects_follow.ensures.follow c.halts_follow.ensures c.points_follow.ensures (g.C.Chooser.choices c.args.outside.now.chooser.now) c.args.outside.now.answers.now c.args.outside.now.steps.now c.make_machine.new.steps c.make_machine.ensures.steps
    c.args.outside.now.disk.now (g.K.Sink.holds c.args.outside.now.sink.now) c.requires.«open» (there-run c.make_machine.new.kept.machine c.args.kept.now.store.entries c.in_ok-make_machine.ensures.there) c.make_machine.new.kept.store c.make_machine.ensures.store
    n.outside.disk.now n.kept.store c.tell_questions.new.kept.store (g.K.Sink.holds n.outside.sink.now) (g.C.Chooser.choices n.outside.chooser.now) n.outside.answers.now n.outside.steps.now (c.in_ok-carry_out.ensures.advances g.Q.Questions.told))

pub returns-in_err-tell_questions-clause-blames : goal.returns-in_err-tell_questions-clause-blames
returns-in_err-tell_questions-clause-blames g c = err-same c.from_residual-in_err-tell_questions.result halt.NoMemory _ c.from_residual-in_err-tell_questions.ensures.1 tt

pub returns-in_err-tell_questions-clause-cause : goal.returns-in_err-tell_questions-clause-cause
returns-in_err-tell_questions-clause-cause g c = err-same c.from_residual-in_err-tell_questions.result halt.NoMemory _ c.from_residual-in_err-tell_questions.ensures.1 tt

pub returns-clause-advances : goal.returns-clause-advances
returns-clause-advances g c =
    let n = c.carry_out.new in
    advances-changed g.D.Disk (answering g.A.Answers.answers g.A.Plugs.unplugs g.A.Plugs.filled) (given g.Q.Questions.told (g.A.Plugs.filled c.args.outside.now.answers.now)) (is_some c.args.kept.now.machine) c.args.line.now c.args.kept.now.store (c.requires.needs (given g.Q.Questions.told (g.A.Plugs.filled c.args.outside.now.answers.now))) c.requires.accepted c.effects_follow.ensures.follow c.halts_follow.ensures c.points_follow.ensures (g.C.Chooser.choices c.args.outside.now.chooser.now) c.args.outside.now.answers.now c.args.outside.now.steps.now c.make_machine.new.steps c.make_machine.ensures.steps
    c.args.outside.now.disk.now (g.K.Sink.holds c.args.outside.now.sink.now) c.requires.«open» (there-run c.make_machine.new.kept.machine c.args.kept.now.store.entries c.in_ok-make_machine.ensures.there) c.make_machine.new.kept.store c.make_machine.ensures.store
    n.outside.disk.now n.kept.store c.tell_questions.new.kept.store (g.K.Sink.holds n.outside.sink.now) (around (g.C.Chooser.choices n.outside.chooser.now) n.outside.answers.now n.outside.steps.now) c.tell_questions.ensures.store (c.in_ok-carry_out.ensures.advances g.Q.Questions.told)

pub tell_questions-requires-clause-inside : goal.tell_questions-requires-clause-inside
tell_questions-requires-clause-inside g c =
    let p = c.in_ok-carry_out.ensures.advances g.Q.Questions.told in
    omega (
      arith,
      few-known c.make_machine.new.kept.store.entries c.carry_out.new.kept.store.entries (committed p.effects) p.carries.entries,
      ap (λ (x : List Record). length x) c.entries-known.ensures,
    )

pub tell_questions-requires-clause-known : goal.tell_questions-requires-clause-known
tell_questions-requires-clause-known g c =
    let p = c.in_ok-carry_out.ensures.advances g.Q.Questions.told in
    heard-before _ g.Q.Questions.knows c.args.kept.now.questions c.carry_out.new.kept.questions c.args.kept.now.store c.make_machine.new.kept.store c.carry_out.new.kept.store c.entries-known.result.now c.carry_out.new.kept.store.entries (committed p.effects) (length c.entries-known.result.now)
    c.requires.sound.questions (c.carry_out.ensures.questions ∙ c.make_machine.ensures.questions) c.make_machine.ensures.store c.entries-known.ensures refl refl p.carries.entries

pub returns-clause-sound : goal.returns-clause-sound
returns-clause-sound g c =
    sound-there g.Q.Questions.knows c.carry_out.new.kept.machine c.tell_questions.new.kept.machine c.tell_questions.new.kept.questions c.carry_out.new.kept.store c.tell_questions.new.kept.store c.in_ok-carry_out.ensures.there c.tell_questions.ensures.machine c.tell_questions.ensures.store c.in_ok-tell_questions.ensures.questions

pub returns-clause-there : goal.returns-clause-there
returns-clause-there g c =
    ap is_some c.tell_questions.ensures.machine ∙ there-some c.carry_out.new.kept.machine c.carry_out.new.kept.store.entries c.in_ok-carry_out.ensures.there

pub returns-clause-on_run : goal.returns-clause-on_run
returns-clause-on_run g c = there-run c.make_machine.new.kept.machine c.args.kept.now.store.entries c.in_ok-make_machine.ensures.there

pub tell_questions-requires-clause-run : goal.tell_questions-requires-clause-run
tell_questions-requires-clause-run g c = there-run c.carry_out.new.kept.machine c.carry_out.new.kept.store.entries c.in_ok-carry_out.ensures.there

pub carry_out-requires-clause-accepted : goal.carry_out-requires-clause-accepted
carry_out-requires-clause-accepted g c = (g.Q.Questions.told, subst (λ (s : StoreState). (row_of (given g.Q.Questions.told (g.A.Plugs.filled c.args.outside.now.answers.now)) s.entries c.args.line.now).refusal ≡ None) (sym c.make_machine.ensures.store) c.requires.accepted)

pub carry_out-requires-clause-needs : goal.carry_out-requires-clause-needs
carry_out-requires-clause-needs g c given = subst (λ (s : StoreState). (row_of given s.entries c.args.line.now).needs_machine ≡ true) (sym c.make_machine.ensures.store) (c.requires.needs given)

pub returns-in_err-make_machine-clause-sound : goal.returns-in_err-make_machine-clause-sound
returns-in_err-make_machine-clause-sound g c = OnOk-never _ c.from_residual.result c.in_err-make_machine.field-0.0 c.from_residual.ensures.1

pub returns-in_err-make_machine-clause-there : goal.returns-in_err-make_machine-clause-there
returns-in_err-make_machine-clause-there g c = OnOk-never _ c.from_residual.result c.in_err-make_machine.field-0.0 c.from_residual.ensures.1

pub returns-in_err-make_machine-clause-on_run : goal.returns-in_err-make_machine-clause-on_run
returns-in_err-make_machine-clause-on_run g c = OnOk-never _ c.from_residual.result c.in_err-make_machine.field-0.0 c.from_residual.ensures.1

pub returns-in_err-make_machine-clause-advances : goal.returns-in_err-make_machine-clause-advances
returns-in_err-make_machine-clause-advances g c = OnOk-never _ c.from_residual.result c.in_err-make_machine.field-0.0 c.from_residual.ensures.1

pub returns-in_err-make_machine-clause-goes_on : goal.returns-in_err-make_machine-clause-goes_on
returns-in_err-make_machine-clause-goes_on g c = record { later = goes-same g.D.Disk.image g.D.Disk.faults c.args.outside.now.disk.now; faults = falls-same (g.K.Sink.faults c.args.outside.now.sink.now); same = record { chooser = refl; answers = refl; disk = refl; sink = refl; steps = refl; text = refl } }

pub returns-in_err-carry_out-clause-sound : goal.returns-in_err-carry_out-clause-sound
returns-in_err-carry_out-clause-sound g c = OnOk-never _ c.from_residual-in_err-carry_out.result c.in_err-carry_out.field-0.0 c.from_residual-in_err-carry_out.ensures.1

pub returns-in_err-carry_out-clause-there : goal.returns-in_err-carry_out-clause-there
returns-in_err-carry_out-clause-there g c = OnOk-never _ c.from_residual-in_err-carry_out.result c.in_err-carry_out.field-0.0 c.from_residual-in_err-carry_out.ensures.1

pub returns-in_err-carry_out-clause-on_run : goal.returns-in_err-carry_out-clause-on_run
returns-in_err-carry_out-clause-on_run g c = OnOk-never _ c.from_residual-in_err-carry_out.result c.in_err-carry_out.field-0.0 c.from_residual-in_err-carry_out.ensures.1

pub returns-in_err-carry_out-clause-advances : goal.returns-in_err-carry_out-clause-advances
returns-in_err-carry_out-clause-advances g c = OnOk-never _ c.from_residual-in_err-carry_out.result c.in_err-carry_out.field-0.0 c.from_residual-in_err-carry_out.ensures.1

pub returns-in_err-carry_out-clause-goes_on : goal.returns-in_err-carry_out-clause-goes_on
returns-in_err-carry_out-clause-goes_on g c =
    let gone = c.carry_out.ensures.goes_on in
    record { later = gone.later; faults = gone.faults; same = record { chooser = gone.same.chooser; answers = gone.same.answers; disk = gone.same.disk; sink = gone.same.sink; steps = gone.same.steps; text = gone.same.text } }

pub returns-in_err-tell_questions-clause-sound : goal.returns-in_err-tell_questions-clause-sound
returns-in_err-tell_questions-clause-sound g c = OnOk-never _ c.from_residual-in_err-tell_questions.result halt.NoMemory c.from_residual-in_err-tell_questions.ensures.1

pub returns-in_err-tell_questions-clause-there : goal.returns-in_err-tell_questions-clause-there
returns-in_err-tell_questions-clause-there g c = OnOk-never _ c.from_residual-in_err-tell_questions.result halt.NoMemory c.from_residual-in_err-tell_questions.ensures.1

pub returns-in_err-tell_questions-clause-on_run : goal.returns-in_err-tell_questions-clause-on_run
returns-in_err-tell_questions-clause-on_run g c = OnOk-never _ c.from_residual-in_err-tell_questions.result halt.NoMemory c.from_residual-in_err-tell_questions.ensures.1

pub returns-in_err-tell_questions-clause-advances : goal.returns-in_err-tell_questions-clause-advances
returns-in_err-tell_questions-clause-advances g c = OnOk-never _ c.from_residual-in_err-tell_questions.result halt.NoMemory c.from_residual-in_err-tell_questions.ensures.1

pub returns-in_err-tell_questions-clause-goes_on : goal.returns-in_err-tell_questions-clause-goes_on
returns-in_err-tell_questions-clause-goes_on g c =
    let gone = c.carry_out.ensures.goes_on in
    record { later = gone.later; faults = gone.faults; same = record { chooser = gone.same.chooser; answers = gone.same.answers; disk = gone.same.disk; sink = gone.same.sink; steps = gone.same.steps; text = gone.same.text } }

pub returns-clause-halted : goal.returns-clause-halted
returns-clause-halted g c = tt

pub returns-clause-blames : goal.returns-clause-blames
returns-clause-blames g c = tt

pub returns-clause-cause : goal.returns-clause-cause
returns-clause-cause g c = tt

pub returns-clause-goes_on : goal.returns-clause-goes_on
returns-clause-goes_on g c =
    let gone = c.carry_out.ensures.goes_on in
    record { later = gone.later; faults = gone.faults; same = record { chooser = gone.same.chooser; answers = gone.same.answers; disk = gone.same.disk; sink = gone.same.sink; steps = gone.same.steps; text = gone.same.text } }

pub make_machine-requires-clause-sound : goal.make_machine-requires-clause-sound
make_machine-requires-clause-sound g c = c.requires.sound

pub make_machine-requires-clause-spelled : goal.make_machine-requires-clause-spelled
make_machine-requires-clause-spelled g c = c.requires.«open».spelled

pub carry_out-requires-clause-fits : goal.carry_out-requires-clause-fits
carry_out-requires-clause-fits g c = c.requires.fits

pub carry_out-requires-clause-open : goal.carry_out-requires-clause-open
carry_out-requires-clause-open g c = subst (λ (s : StoreState). IsOpen g.D.Disk s c.args.outside.now.disk.now) (sym c.make_machine.ensures.store) c.requires.«open»

pub carry_out-requires-clause-there : goal.carry_out-requires-clause-there
carry_out-requires-clause-there g c = subst (λ (s : StoreState). IsThere c.make_machine.new.kept.machine s.entries) (sym c.make_machine.ensures.store) c.in_ok-make_machine.ensures.there

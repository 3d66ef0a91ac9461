use Rattle.std.proofs.Common.{◌≡◌, ◌∙◌, ap, is_some, sym, true, false, refl}
use Rattle.std.proofs.lemmas.Result.{on_ok_weaker}
use Rattle.arn_commands.specs.declared.command.Command.TheVariants.{Says}
use Rattle.session_runs.specs.Points.{around}
use Rattle.session_runs.specs.Standing.{standpoint}
use Rattle.session_commands.specs.Lines.{needs_machine}
use Rattle.session_commands.specs.Rows.{row_of}
use Rattle.session_runs.specs.Touches.{answering}
use Rattle.session_commands.specs.Given.{given}
use Rattle.session_commands.proofs.AnswerLemmas.{OnOk-always, answered-text, blames-text, err-both, halted-text, line-causes, or-false, goes-same}
use Rattle.session_commands.proofs.ChangeLemmas.{answered-change, some-there, sound-asked}
use Rattle.session_commands.proofs.LineLemmas.{cost-told, needs-none, needs-one, text-line, turn-line}
use Rattle.session_commands.proofs.answering.answer_line.Goals as goal

pub returns-then-needs_machine-clause-there : goal.returns-then-needs_machine-clause-there
returns-then-needs_machine-clause-there g c =
    let needs : (row_of (given g.Q.Questions.told (g.A.Plugs.filled c.args.outside.now.answers.now)) c.args.kept.now.store.entries c.args.line.now).needs_machine ≡ true = sym (c.needs_machine.ensures (given g.Q.Questions.told (g.A.Plugs.filled c.args.outside.now.answers.now)) c.args.kept.now.store.entries) ∙ c.if-needs_machine.true in
    on_ok_weaker c.change.result (λ some. some-there c.change.new.kept.machine (is_some c.args.kept.now.machine) (needs_machine (given g.Q.Questions.told (g.A.Plugs.filled c.args.outside.now.answers.now)) c.args.kept.now.store.entries (Says c.args.line.now)) some (needs-one (given g.Q.Questions.told (g.A.Plugs.filled c.args.outside.now.answers.now)) c.args.kept.now.store.entries c.args.line.now needs c.requires.accepted)) c.change.ensures.there

pub returns-then-needs_machine-clause-answered : goal.returns-then-needs_machine-clause-answered
returns-then-needs_machine-clause-answered g c =
    let needs : (row_of (given g.Q.Questions.told (g.A.Plugs.filled c.args.outside.now.answers.now)) c.args.kept.now.store.entries c.args.line.now).needs_machine ≡ true = sym (c.needs_machine.ensures (given g.Q.Questions.told (g.A.Plugs.filled c.args.outside.now.answers.now)) c.args.kept.now.store.entries) ∙ c.if-needs_machine.true in
    answered-change g.D.Disk (answering g.A.Answers.answers g.A.Plugs.unplugs g.A.Plugs.filled) (given g.Q.Questions.told (g.A.Plugs.filled c.args.outside.now.answers.now)) (is_some c.args.kept.now.machine) c.args.line.now c.args.kept.now.store needs c.requires.accepted c.change.result c.args.outside.now.disk.now c.change.new.outside.disk.now c.change.new.kept.store (g.K.Sink.holds c.args.outside.now.sink.now) (g.K.Sink.holds c.change.new.outside.sink.now)
    (around (g.C.Chooser.choices c.args.outside.now.chooser.now) c.args.outside.now.answers.now c.args.outside.now.steps.now) (around (g.C.Chooser.choices c.change.new.outside.chooser.now) c.change.new.outside.answers.now c.change.new.outside.steps.now) c.change.ensures.on_run c.change.ensures.advances

pub returns-clause-answered : goal.returns-clause-answered
returns-clause-answered g c =
    let none : (row_of (given g.Q.Questions.told (g.A.Plugs.filled c.args.outside.now.answers.now)) c.args.kept.now.store.entries c.args.line.now).needs_machine ≡ false = sym (c.needs_machine.ensures (given g.Q.Questions.told (g.A.Plugs.filled c.args.outside.now.answers.now)) c.args.kept.now.store.entries) ∙ c.if-needs_machine.false in
    let t = text-line (given g.Q.Questions.told (g.A.Plugs.filled c.args.outside.now.answers.now)) c.args.kept.now.store.entries c.args.line.now none in
    answered-text g.D.Disk (answering g.A.Answers.answers g.A.Plugs.unplugs g.A.Plugs.filled) (given g.Q.Questions.told (g.A.Plugs.filled c.args.outside.now.answers.now)) (is_some c.args.kept.now.machine) (Says c.args.line.now) (g.C.Chooser.choices c.args.outside.now.chooser.now) c.args.outside.now.answers.now c.effects_follow.ensures.follow c.tell.result c.args.outside.now.disk.now c.args.kept.now.store c.tell.new.kept.store (g.K.Sink.holds c.args.outside.now.sink.now) (g.K.Sink.holds c.tell.new.sink) t.text c.args.outside.now.steps.now c.tell.new.steps ((row_of (given g.Q.Questions.told (g.A.Plugs.filled c.args.outside.now.answers.now)) c.args.kept.now.store.entries c.args.line.now).cost) c.tell.ensures.store
    (turn-line (given g.Q.Questions.told (g.A.Plugs.filled c.args.outside.now.answers.now)) c.args.kept.now.store.entries c.args.line.now c.requires.accepted ∙ t.is) (needs-none (given g.Q.Questions.told (g.A.Plugs.filled c.args.outside.now.answers.now)) c.args.kept.now.store.entries c.args.line.now none) c.requires.«open» (c.tell.ensures.steps (g.A.Plugs.filled c.args.outside.now.answers.now)) (λ behind. cost-told (given g.Q.Questions.told (g.A.Plugs.filled c.args.outside.now.answers.now)) (is_some c.args.kept.now.machine) c.args.kept.now.store.entries behind c.args.line.now) (on_ok_weaker c.tell.result (λ ok. ok (g.A.Plugs.filled c.args.outside.now.answers.now) t.text t.is) c.tell.ensures.ok)

pub returns-clause-halted : goal.returns-clause-halted
returns-clause-halted g c =
    let none : (row_of (given g.Q.Questions.told (g.A.Plugs.filled c.args.outside.now.answers.now)) c.args.kept.now.store.entries c.args.line.now).needs_machine ≡ false = sym (c.needs_machine.ensures (given g.Q.Questions.told (g.A.Plugs.filled c.args.outside.now.answers.now)) c.args.kept.now.store.entries) ∙ c.if-needs_machine.false in
    let t = text-line (given g.Q.Questions.told (g.A.Plugs.filled c.args.outside.now.answers.now)) c.args.kept.now.store.entries c.args.line.now none in
    halted-text g.D.Disk (answering g.A.Answers.answers g.A.Plugs.unplugs g.A.Plugs.filled) (given g.Q.Questions.told (g.A.Plugs.filled c.args.outside.now.answers.now)) (is_some c.args.kept.now.machine) (Says c.args.line.now) (g.C.Chooser.choices c.args.outside.now.chooser.now) c.args.outside.now.answers.now c.halts_follow.ensures c.tell.result c.args.outside.now.disk.now c.args.kept.now.store c.tell.new.kept.store (g.K.Sink.holds c.args.outside.now.sink.now) (g.K.Sink.holds c.tell.new.sink) t.text c.args.outside.now.steps.now c.tell.new.steps ((row_of (given g.Q.Questions.told (g.A.Plugs.filled c.args.outside.now.answers.now)) c.args.kept.now.store.entries c.args.line.now).cost)
    (turn-line (given g.Q.Questions.told (g.A.Plugs.filled c.args.outside.now.answers.now)) c.args.kept.now.store.entries c.args.line.now c.requires.accepted ∙ t.is) (needs-none (given g.Q.Questions.told (g.A.Plugs.filled c.args.outside.now.answers.now)) c.args.kept.now.store.entries c.args.line.now none) (c.tell.ensures.steps (g.A.Plugs.filled c.args.outside.now.answers.now)) (λ behind. cost-told (given g.Q.Questions.told (g.A.Plugs.filled c.args.outside.now.answers.now)) (is_some c.args.kept.now.machine) c.args.kept.now.store.entries behind c.args.line.now) (err-both c.tell.result _ _ _ (λ why put again. put (g.A.Plugs.filled c.args.outside.now.answers.now) t.text t.is) c.tell.ensures.stops c.tell.ensures.stops)

pub returns-clause-blames : goal.returns-clause-blames
returns-clause-blames g c =
    let none : (row_of (given g.Q.Questions.told (g.A.Plugs.filled c.args.outside.now.answers.now)) c.args.kept.now.store.entries c.args.line.now).needs_machine ≡ false = sym (c.needs_machine.ensures (given g.Q.Questions.told (g.A.Plugs.filled c.args.outside.now.answers.now)) c.args.kept.now.store.entries) ∙ c.if-needs_machine.false in
    let t = text-line (given g.Q.Questions.told (g.A.Plugs.filled c.args.outside.now.answers.now)) c.args.kept.now.store.entries c.args.line.now none in
    blames-text (given g.Q.Questions.told (g.A.Plugs.filled c.args.outside.now.answers.now)) (is_some c.args.kept.now.machine) (Says c.args.line.now) c.tell.result t.text (g.K.Sink.holds c.args.outside.now.sink.now) (g.K.Sink.holds c.tell.new.sink) (standpoint c.args.outside.now.disk.now c.args.kept.now.store (g.K.Sink.holds c.args.outside.now.sink.now) (around (g.C.Chooser.choices c.args.outside.now.chooser.now) c.args.outside.now.answers.now c.args.outside.now.steps.now)) (standpoint c.args.outside.now.disk.now c.tell.new.kept.store (g.K.Sink.holds c.tell.new.sink) (around (g.C.Chooser.choices c.args.outside.now.chooser.now) c.args.outside.now.answers.now c.tell.new.steps))
    (err-both c.tell.result _ _ _ (λ why put again. put (g.A.Plugs.filled c.args.outside.now.answers.now) t.text t.is) c.tell.ensures.stops c.tell.ensures.stops)

pub returns-clause-cause : goal.returns-clause-cause
returns-clause-cause g c =
    line-causes c.tell.result (g.D.Disk.faults c.args.outside.now.disk.now) (g.K.Sink.faults c.args.outside.now.sink.now) (g.K.Sink.faults c.tell.new.sink) c.tell.ensures.cause

pub returns-clause-there : goal.returns-clause-there
returns-clause-there g c =
    let none : (row_of (given g.Q.Questions.told (g.A.Plugs.filled c.args.outside.now.answers.now)) c.args.kept.now.store.entries c.args.line.now).needs_machine ≡ false = sym (c.needs_machine.ensures (given g.Q.Questions.told (g.A.Plugs.filled c.args.outside.now.answers.now)) c.args.kept.now.store.entries) ∙ c.if-needs_machine.false in
    let t = text-line (given g.Q.Questions.told (g.A.Plugs.filled c.args.outside.now.answers.now)) c.args.kept.now.store.entries c.args.line.now none in
    OnOk-always c.tell.result (ap is_some c.tell.ensures.machine ∙ or-false (is_some c.args.kept.now.machine) (needs_machine (given g.Q.Questions.told (g.A.Plugs.filled c.args.outside.now.answers.now)) c.args.kept.now.store.entries (Says c.args.line.now)) (needs-none (given g.Q.Questions.told (g.A.Plugs.filled c.args.outside.now.answers.now)) c.args.kept.now.store.entries c.args.line.now none))

pub returns-clause-sound : goal.returns-clause-sound
returns-clause-sound g c =
    on_ok_weaker c.tell.result (λ known. sound-asked g.Q.Questions.knows c.args.kept.now.machine c.tell.new.kept.machine c.args.kept.now.questions c.tell.new.kept.questions c.args.kept.now.store c.tell.new.kept.store c.requires.sound c.tell.ensures.machine c.tell.ensures.store known) c.tell.ensures.known

pub tell-requires-clause-needless : goal.tell-requires-clause-needless
tell-requires-clause-needless g c given = sym (c.needs_machine.ensures given c.args.kept.now.store.entries) ∙ c.if-needs_machine.false

pub change-requires-clause-needs : goal.change-requires-clause-needs
change-requires-clause-needs g c given = sym (c.needs_machine.ensures given c.args.kept.now.store.entries) ∙ c.if-needs_machine.true

pub returns-then-needs_machine-clause-sound : goal.returns-then-needs_machine-clause-sound
returns-then-needs_machine-clause-sound g c = c.change.ensures.sound

pub returns-then-needs_machine-clause-halted : goal.returns-then-needs_machine-clause-halted
returns-then-needs_machine-clause-halted g c = c.change.ensures.halted

pub returns-then-needs_machine-clause-blames : goal.returns-then-needs_machine-clause-blames
returns-then-needs_machine-clause-blames g c = c.change.ensures.blames

pub returns-then-needs_machine-clause-cause : goal.returns-then-needs_machine-clause-cause
returns-then-needs_machine-clause-cause g c = c.change.ensures.cause

pub returns-then-needs_machine-clause-goes_on : goal.returns-then-needs_machine-clause-goes_on
returns-then-needs_machine-clause-goes_on g c = c.change.ensures.goes_on

pub returns-clause-goes_on : goal.returns-clause-goes_on
returns-clause-goes_on g c = record { later = goes-same g.D.Disk.image g.D.Disk.faults c.args.outside.now.disk.now; faults = c.tell.ensures.faults; same = record { chooser = refl; answers = refl; disk = refl; sink = refl; steps = refl; text = refl } }

pub change-requires-clause-open : goal.change-requires-clause-open
change-requires-clause-open g c = c.requires.«open»

pub change-requires-clause-sound : goal.change-requires-clause-sound
change-requires-clause-sound g c = c.requires.sound

pub change-requires-clause-fits : goal.change-requires-clause-fits
change-requires-clause-fits g c = c.requires.fits

pub change-requires-clause-accepted : goal.change-requires-clause-accepted
change-requires-clause-accepted g c = c.requires.accepted

pub tell-requires-clause-known : goal.tell-requires-clause-known
tell-requires-clause-known g c = c.requires.sound.questions

pub tell-requires-clause-spelled : goal.tell-requires-clause-spelled
tell-requires-clause-spelled g c = c.requires.«open».spelled

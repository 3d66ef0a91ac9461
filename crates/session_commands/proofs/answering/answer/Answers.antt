use Rattle.std.proofs.Common.{◌≡◌, ◌∙◌, None, Some, ap, is_some, refl, sym, arith, List, ◌^◌, ◌<◌, ℕ, length, subst}
use Rattle.arn_lines.specs.Texts.{refusal_text}
use Rattle.arn_commands.specs.declared.command.Command.{Command}
use Rattle.session_runs.specs.Points.{around}
use Rattle.session_runs.specs.Standing.{standpoint}
use Rattle.session_commands.specs.Lines.{command_refusal, needs_machine, turn}
use Rattle.session_runs.specs.Touches.{answering}
use Rattle.session_commands.specs.Given.{given}
use Rattle.session_commands.proofs.AnswerLemmas.{answered-nothing, answered-text, blames-text, halted-text, line-causes, or-false, OnOk-always, falls-same, goes-same}
use Rattle.session_commands.proofs.LineLemmas.{needs-refused, others-refused, turn-refused}
use Rattle.arn_commands.specs.Sizes.{Fits, IsBootable}
use Rattle.session_commands.proofs.answering.answer.Goals as goal

pub returns-in-PassedOver-clause-answered : goal.returns-in-PassedOver-clause-answered
returns-in-PassedOver-clause-answered g c =
    answered-nothing g.D.Disk (answering g.A.Answers.answers g.A.Plugs.unplugs g.A.Plugs.filled) (given g.Q.Questions.told (g.A.Plugs.filled c.args.outside.now.answers.now)) (is_some c.args.kept.now.machine) c.args.command (g.C.Chooser.choices c.args.outside.now.chooser.now) c.args.outside.now.answers.now c.effects_follow.ensures.follow c.args.outside.now.disk.now c.args.kept.now.store (g.K.Sink.holds c.args.outside.now.sink.now) c.args.outside.now.steps.now
    (ap (λ (x : Command). turn (given g.Q.Questions.told (g.A.Plugs.filled c.args.outside.now.answers.now)) c.args.kept.now.store.entries x) c.in-PassedOver.is) (ap (λ (x : Command). needs_machine (given g.Q.Questions.told (g.A.Plugs.filled c.args.outside.now.answers.now)) c.args.kept.now.store.entries x) c.in-PassedOver.is) c.requires.«open»

pub returns-in-PassedOver-clause-there : goal.returns-in-PassedOver-clause-there
returns-in-PassedOver-clause-there g c =
    or-false (is_some c.args.kept.now.machine) (needs_machine (given g.Q.Questions.told (g.A.Plugs.filled c.args.outside.now.answers.now)) c.args.kept.now.store.entries c.args.command) (ap (λ (x : Command). needs_machine (given g.Q.Questions.told (g.A.Plugs.filled c.args.outside.now.answers.now)) c.args.kept.now.store.entries x) c.in-PassedOver.is)

pub returns-in-Some-clause-answered : goal.returns-in-Some-clause-answered
returns-in-Some-clause-answered g c =
    let why : command_refusal (given g.Q.Questions.told (g.A.Plugs.filled c.args.outside.now.answers.now)) c.args.kept.now.store.entries c.args.command ≡ Some c.in-Some.why = sym (rw c.entries.ensures at (c.command_refusal.ensures g.Q.Questions.told)) ∙ c.in-Some.is in
    answered-text g.D.Disk (answering g.A.Answers.answers g.A.Plugs.unplugs g.A.Plugs.filled) (given g.Q.Questions.told (g.A.Plugs.filled c.args.outside.now.answers.now)) (is_some c.args.kept.now.machine) c.args.command (g.C.Chooser.choices c.args.outside.now.chooser.now) c.args.outside.now.answers.now c.effects_follow.ensures.follow c.print_refusal.result c.args.outside.now.disk.now c.args.kept.now.store c.args.kept.now.store (g.K.Sink.holds c.args.outside.now.sink.now) (g.K.Sink.holds c.print_refusal.new.sink) (refusal_text c.in-Some.why) c.args.outside.now.steps.now c.args.outside.now.steps.now 0 refl
    (turn-refused (given g.Q.Questions.told (g.A.Plugs.filled c.args.outside.now.answers.now)) c.args.kept.now.store.entries c.args.command c.in-Some.why why) (needs-refused (given g.Q.Questions.told (g.A.Plugs.filled c.args.outside.now.answers.now)) c.args.kept.now.store.entries c.args.command c.in-Some.why why) c.requires.«open» (omega arith) (λ behind. omega arith) c.print_refusal.ensures.ok

pub returns-in-Some-clause-halted : goal.returns-in-Some-clause-halted
returns-in-Some-clause-halted g c =
    let why : command_refusal (given g.Q.Questions.told (g.A.Plugs.filled c.args.outside.now.answers.now)) c.args.kept.now.store.entries c.args.command ≡ Some c.in-Some.why = sym (rw c.entries.ensures at (c.command_refusal.ensures g.Q.Questions.told)) ∙ c.in-Some.is in
    halted-text g.D.Disk (answering g.A.Answers.answers g.A.Plugs.unplugs g.A.Plugs.filled) (given g.Q.Questions.told (g.A.Plugs.filled c.args.outside.now.answers.now)) (is_some c.args.kept.now.machine) c.args.command (g.C.Chooser.choices c.args.outside.now.chooser.now) c.args.outside.now.answers.now c.halts_follow.ensures c.print_refusal.result c.args.outside.now.disk.now c.args.kept.now.store c.args.kept.now.store (g.K.Sink.holds c.args.outside.now.sink.now) (g.K.Sink.holds c.print_refusal.new.sink) (refusal_text c.in-Some.why) c.args.outside.now.steps.now c.args.outside.now.steps.now 0
    (turn-refused (given g.Q.Questions.told (g.A.Plugs.filled c.args.outside.now.answers.now)) c.args.kept.now.store.entries c.args.command c.in-Some.why why) (needs-refused (given g.Q.Questions.told (g.A.Plugs.filled c.args.outside.now.answers.now)) c.args.kept.now.store.entries c.args.command c.in-Some.why why) (omega arith) (λ behind. omega arith) c.print_refusal.ensures.stops

pub returns-in-Some-clause-blames : goal.returns-in-Some-clause-blames
returns-in-Some-clause-blames g c =
    blames-text (given g.Q.Questions.told (g.A.Plugs.filled c.args.outside.now.answers.now)) (is_some c.args.kept.now.machine) c.args.command c.print_refusal.result (refusal_text c.in-Some.why) (g.K.Sink.holds c.args.outside.now.sink.now) (g.K.Sink.holds c.print_refusal.new.sink) (standpoint c.args.outside.now.disk.now c.args.kept.now.store (g.K.Sink.holds c.args.outside.now.sink.now) (around (g.C.Chooser.choices c.args.outside.now.chooser.now) c.args.outside.now.answers.now c.args.outside.now.steps.now)) (standpoint c.args.outside.now.disk.now c.args.kept.now.store (g.K.Sink.holds c.print_refusal.new.sink) (around (g.C.Chooser.choices c.args.outside.now.chooser.now) c.args.outside.now.answers.now c.args.outside.now.steps.now)) c.print_refusal.ensures.stops

pub returns-in-Some-clause-cause : goal.returns-in-Some-clause-cause
returns-in-Some-clause-cause g c =
    line-causes c.print_refusal.result (g.D.Disk.faults c.args.outside.now.disk.now) (g.K.Sink.faults c.args.outside.now.sink.now) (g.K.Sink.faults c.print_refusal.new.sink) c.print_refusal.ensures.cause

pub returns-in-Some-clause-there : goal.returns-in-Some-clause-there
returns-in-Some-clause-there g c =
    let why : command_refusal (given g.Q.Questions.told (g.A.Plugs.filled c.args.outside.now.answers.now)) c.args.kept.now.store.entries c.args.command ≡ Some c.in-Some.why = sym (rw c.entries.ensures at (c.command_refusal.ensures g.Q.Questions.told)) ∙ c.in-Some.is in
    OnOk-always c.print_refusal.result (or-false (is_some c.args.kept.now.machine) (needs_machine (given g.Q.Questions.told (g.A.Plugs.filled c.args.outside.now.answers.now)) c.args.kept.now.store.entries c.args.command) (needs-refused (given g.Q.Questions.told (g.A.Plugs.filled c.args.outside.now.answers.now)) c.args.kept.now.store.entries c.args.command c.in-Some.why why))

pub returns-in-Says-clause-answered : goal.returns-in-Says-clause-answered
returns-in-Says-clause-answered g c = rw c.in-Says.is c.answer_line-answered.ensures.answered

pub returns-in-Says-clause-halted : goal.returns-in-Says-clause-halted
returns-in-Says-clause-halted g c = rw c.in-Says.is c.answer_line-answered.ensures.halted

pub returns-in-Says-clause-blames : goal.returns-in-Says-clause-blames
returns-in-Says-clause-blames g c = rw c.in-Says.is c.answer_line-answered.ensures.blames

pub returns-in-Says-clause-there : goal.returns-in-Says-clause-there
returns-in-Says-clause-there g c = rw c.in-Says.is c.answer_line-answered.ensures.there

pub answer_line-answered-requires-clause-accepted : goal.answer_line-answered-requires-clause-accepted
answer_line-answered-requires-clause-accepted g c = sym (rw (c.entries.ensures, c.in-Says.is, c.in_default.is) at (c.command_refusal.ensures g.Q.Questions.told))

pub answer_generator-answered-requires-clause-accepted : goal.answer_generator-answered-requires-clause-accepted
answer_generator-answered-requires-clause-accepted g c = sym (rw (c.entries.ensures, c.in-Generates.is, c.in_default.is) at (c.command_refusal.ensures g.Q.Questions.told))

pub unreachable-requires : goal.unreachable-requires
unreachable-requires g c =
    let none : command_refusal (given g.Q.Questions.told (g.A.Plugs.filled c.args.outside.now.answers.now)) c.args.kept.now.store.entries c.args.command ≡ None = sym (rw c.entries.ensures at (c.command_refusal.ensures g.Q.Questions.told)) ∙ c.in_default.is in
    others-refused (given g.Q.Questions.told (g.A.Plugs.filled c.args.outside.now.answers.now)) c.args.kept.now.store.entries c.args.command none c.in_default-command.not-PassedOver c.in_default-command.not-Says c.in_default-command.not-Generates

pub returns-in-Some-clause-sound : goal.returns-in-Some-clause-sound
returns-in-Some-clause-sound g c = OnOk-always c.print_refusal.result c.requires.sound

pub returns-in-Says-clause-sound : goal.returns-in-Says-clause-sound
returns-in-Says-clause-sound g c = c.answer_line-answered.ensures.sound

pub returns-in-Says-clause-cause : goal.returns-in-Says-clause-cause
returns-in-Says-clause-cause g c = c.answer_line-answered.ensures.cause

pub returns-in-Says-clause-goes_on : goal.returns-in-Says-clause-goes_on
returns-in-Says-clause-goes_on g c = c.answer_line-answered.ensures.goes_on

pub returns-in-PassedOver-clause-sound : goal.returns-in-PassedOver-clause-sound
returns-in-PassedOver-clause-sound g c = c.requires.sound

pub returns-in-PassedOver-clause-halted : goal.returns-in-PassedOver-clause-halted
returns-in-PassedOver-clause-halted g c = tt

pub returns-in-PassedOver-clause-blames : goal.returns-in-PassedOver-clause-blames
returns-in-PassedOver-clause-blames g c = tt

pub returns-in-PassedOver-clause-cause : goal.returns-in-PassedOver-clause-cause
returns-in-PassedOver-clause-cause g c = tt

pub returns-in-Generates-clause-sound : goal.returns-in-Generates-clause-sound
returns-in-Generates-clause-sound g c = c.answer_generator-answered.ensures.sound

pub returns-in-Generates-clause-cause : goal.returns-in-Generates-clause-cause
returns-in-Generates-clause-cause g c = c.answer_generator-answered.ensures.cause

pub returns-in-Generates-clause-goes_on : goal.returns-in-Generates-clause-goes_on
returns-in-Generates-clause-goes_on g c = c.answer_generator-answered.ensures.goes_on

pub returns-in-Generates-clause-there : goal.returns-in-Generates-clause-there
returns-in-Generates-clause-there g c = rw c.in-Generates.is c.answer_generator-answered.ensures.there

pub returns-in-Generates-clause-answered : goal.returns-in-Generates-clause-answered
returns-in-Generates-clause-answered g c = rw (c.in-Generates.is, ← c.as_slice-image.ensures, ← c.as_slice-typed.ensures) c.answer_generator-answered.ensures.answered

pub returns-in-Generates-clause-halted : goal.returns-in-Generates-clause-halted
returns-in-Generates-clause-halted g c = rw (c.in-Generates.is, ← c.as_slice-image.ensures, ← c.as_slice-typed.ensures) c.answer_generator-answered.ensures.halted

pub returns-in-Generates-clause-blames : goal.returns-in-Generates-clause-blames
returns-in-Generates-clause-blames g c = rw (c.in-Generates.is, ← c.as_slice-image.ensures, ← c.as_slice-typed.ensures) c.answer_generator-answered.ensures.blames

pub answer_line-answered-requires-clause-open : goal.answer_line-answered-requires-clause-open
answer_line-answered-requires-clause-open g c = c.requires.«open»

pub answer_generator-answered-requires-clause-open : goal.answer_generator-answered-requires-clause-open
answer_generator-answered-requires-clause-open g c = c.requires.«open»

pub answer_line-answered-requires-clause-sound : goal.answer_line-answered-requires-clause-sound
answer_line-answered-requires-clause-sound g c = c.requires.sound

pub answer_generator-answered-requires-clause-sound : goal.answer_generator-answered-requires-clause-sound
answer_generator-answered-requires-clause-sound g c = c.requires.sound

pub returns-in-Some-clause-goes_on : goal.returns-in-Some-clause-goes_on
returns-in-Some-clause-goes_on g c = record { later = goes-same g.D.Disk.image g.D.Disk.faults c.args.outside.now.disk.now; faults = c.print_refusal.ensures.faults; same = record { chooser = refl; answers = refl; disk = refl; sink = refl; steps = refl; text = refl } }

pub returns-in-PassedOver-clause-goes_on : goal.returns-in-PassedOver-clause-goes_on
returns-in-PassedOver-clause-goes_on g c = record { later = goes-same g.D.Disk.image g.D.Disk.faults c.args.outside.now.disk.now; faults = falls-same (g.K.Sink.faults c.args.outside.now.sink.now); same = record { chooser = refl; answers = refl; disk = refl; sink = refl; steps = refl; text = refl } }

pub answer_line-answered-requires-clause-fits : goal.answer_line-answered-requires-clause-fits
answer_line-answered-requires-clause-fits g c = subst Fits c.in-Says.is c.requires.fits

pub answer_generator-answered-requires-clause-image : goal.answer_generator-answered-requires-clause-image
answer_generator-answered-requires-clause-image g c = subst IsBootable (sym c.as_slice-image.ensures) (subst Fits c.in-Generates.is c.requires.fits).0

pub answer_generator-answered-requires-clause-typed : goal.answer_generator-answered-requires-clause-typed
answer_generator-answered-requires-clause-typed g c = subst (λ (x : List ℕ). length x < 2 ^ 32) (sym c.as_slice-typed.ensures) (subst Fits c.in-Generates.is c.requires.fits).1

use Rattle.std.proofs.Common.{◌≡◌, ◌+◌, ◌++◌, ◌≤◌, OnOk, arith, string_bytes, subst, sym}
use Rattle.std.proofs.lemmas.Result.{on_ok_weaker}
use Rattle.arn_lines.specs.declared.line.Question.{Question}
use Rattle.session_questions.specs.Texts.{telling}
use Rattle.session_questions.proofs.Written.{ok-always}
use Rattle.session_questions.proofs.asking.AskingQuestions.answer.Goals as goal

pub returns-in-Forth-clause-text : goal.returns-in-Forth-clause-text
returns-in-Forth-clause-text g c =
    subst (λ (q : Question). OnOk c.sinks.result (string_bytes c.sinks.new.text ≡ string_bytes c.args.text.now ++ (telling c.args.entries.now q).text)) (sym c.in-Forth.is) c.sinks.ensures.text

pub returns-in-Back-clause-known : goal.returns-in-Back-clause-known
returns-in-Back-clause-known g c = ok-always _ c.sources.result c.sources.ensures.known

pub returns-in-Back-clause-text : goal.returns-in-Back-clause-text
returns-in-Back-clause-text g c = subst (λ (q : Question). OnOk c.sources.result (string_bytes c.sources.new.text ≡ string_bytes c.args.text.now ++ (telling c.args.entries.now q).text)) (sym c.in-Back.is) c.sources.ensures.text

pub returns-in-Back-clause-steps : goal.returns-in-Back-clause-steps
returns-in-Back-clause-steps g c = subst (λ (q : Question). c.sources.new.steps ≤ c.args.steps.now + (telling c.args.entries.now q).cost) (sym c.in-Back.is) c.sources.ensures.steps

pub returns-in-Show-clause-known : goal.returns-in-Show-clause-known
returns-in-Show-clause-known g c = ok-always _ c.show.result c.requires.known

pub returns-in-Show-clause-text : goal.returns-in-Show-clause-text
returns-in-Show-clause-text g c = subst (λ (q : Question). OnOk c.show.result (string_bytes c.show.new.text ≡ string_bytes c.args.text.now ++ (telling c.args.entries.now q).text)) (sym c.in-Show.is) c.show.ensures.text

pub returns-in-Show-clause-steps : goal.returns-in-Show-clause-steps
returns-in-Show-clause-steps g c = subst (λ (q : Question). c.show.new.steps ≤ c.args.steps.now + (telling c.args.entries.now q).cost) (sym c.in-Show.is) c.show.ensures.steps

pub returns-in-Forth-clause-known : goal.returns-in-Forth-clause-known
returns-in-Forth-clause-known g c = ok-always _ c.sinks.result c.sinks.ensures.known

pub returns-in-Forth-clause-steps : goal.returns-in-Forth-clause-steps
returns-in-Forth-clause-steps g c = subst (λ (q : Question). c.sinks.new.steps ≤ c.args.steps.now + (telling c.args.entries.now q).cost) (sym c.in-Forth.is) c.sinks.ensures.steps

pub returns-in-Groups-clause-known : goal.returns-in-Groups-clause-known
returns-in-Groups-clause-known g c = ok-always _ c.report_groups.result c.requires.known

pub returns-in-Groups-clause-text : goal.returns-in-Groups-clause-text
returns-in-Groups-clause-text g c = subst (λ (q : Question). OnOk c.report_groups.result (string_bytes c.report_groups.new.text ≡ string_bytes c.args.text.now ++ (telling c.args.entries.now q).text)) (sym c.in-Groups.is) (on_ok_weaker c.report_groups.result (λ all. all c.args.entries.now c.requires.known.indexed) c.report_groups.ensures.ok)

pub returns-in-Groups-clause-steps : goal.returns-in-Groups-clause-steps
returns-in-Groups-clause-steps g c = omega arith

pub returns-in-Events-clause-known : goal.returns-in-Events-clause-known
returns-in-Events-clause-known g c = ok-always _ c.report_events.result c.requires.known

pub returns-in-Events-clause-text : goal.returns-in-Events-clause-text
returns-in-Events-clause-text g c = subst (λ (q : Question). OnOk c.report_events.result (string_bytes c.report_events.new.text ≡ string_bytes c.args.text.now ++ (telling c.args.entries.now q).text)) (sym c.in-Events.is) c.report_events.ensures.ok

pub returns-in-Events-clause-steps : goal.returns-in-Events-clause-steps
returns-in-Events-clause-steps g c = omega arith

pub returns-in-Verify-clause-known : goal.returns-in-Verify-clause-known
returns-in-Verify-clause-known g c = ok-always _ c.report_verify.result c.requires.known

pub returns-in-Verify-clause-text : goal.returns-in-Verify-clause-text
returns-in-Verify-clause-text g c = subst (λ (q : Question). OnOk c.report_verify.result (string_bytes c.report_verify.new.text ≡ string_bytes c.args.text.now ++ (telling c.args.entries.now q).text)) (sym c.in-Verify.is) c.report_verify.ensures.ok

pub returns-in-Verify-clause-steps : goal.returns-in-Verify-clause-steps
returns-in-Verify-clause-steps g c = subst (λ (q : Question). c.report_verify.new.steps ≤ c.args.steps.now + (telling c.args.entries.now q).cost) (sym c.in-Verify.is) c.report_verify.ensures.steps

pub sources-requires-clause-known : goal.sources-requires-clause-known
sources-requires-clause-known g c = c.requires.known

pub show-requires-clause-known : goal.show-requires-clause-known
show-requires-clause-known g c = c.requires.known.indexed

pub sinks-requires-clause-known : goal.sinks-requires-clause-known
sinks-requires-clause-known g c = c.requires.known

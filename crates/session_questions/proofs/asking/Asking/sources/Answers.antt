-- What is told of bytes is what is told of the target that they are.
use Rattle.std.proofs.Common.{◌≤◌, ◌+◌, ◌∙◌, ap, arith, string_bytes, subst, sym}
use Rattle.std.proofs.lemmas.Result.{on_ok_weaker}
use Rattle.session_questions.specs.Texts.{Telling, back_telling, target_telling}
use Rattle.session_questions.proofs.Sought.{cost-answered, cost-failed, put-answered, put-failed, put-refused}
use Rattle.session_questions.proofs.asking.Asking.sources.Goals as goal

pub returns-in-Ok-clause-text : goal.returns-in-Ok-clause-text
returns-in-Ok-clause-text g c =
    let entries = c.args.entries.now in
    let linkage = c.args.linkage in
    let told = c.in_ok-target.ensures linkage ∙ ap (target_telling linkage entries) c.in-Some.is in
    on_ok_weaker c.push_answer-pushed.result
    (put-answered linkage entries (back_telling entries linkage c.args.sought.now) c.in-Some.target c.in-Ok.answer (string_bytes c.args.text.now) (string_bytes c.push_answer-pushed.new.text) told c.in-Ok.ensures.ok)
    c.push_answer-pushed.ensures

pub returns-in-Err-clause-steps : goal.returns-in-Err-clause-steps
returns-in-Err-clause-steps g c =
    let entries = c.args.entries.now in
    let linkage = c.args.linkage in
    let told = c.in_ok-target.ensures linkage ∙ ap (target_telling linkage entries) c.in-Some.is in
    subst (λ (t : Telling). c.back-answered.new.steps ≤ c.args.steps.now + t.cost) (sym told)
    (cost-failed linkage entries c.in-Some.target c.in-Err.error c.args.steps.now c.back-answered.new.steps c.in-Err.ensures.err c.in-Err.ensures.unasked c.back-answered.ensures.bounded)

pub returns-in_default-clause-text : goal.returns-in_default-clause-text
returns-in_default-clause-text g c =
    let entries = c.args.entries.now in
    let linkage = c.args.linkage in
    let told = c.in_ok-target.ensures linkage ∙ ap (target_telling linkage entries) c.in_default.is in
    on_ok_weaker c.push_refusal.result
    (put-refused linkage entries (back_telling entries linkage c.args.sought.now) (string_bytes c.args.text.now) (string_bytes c.push_refusal.new.text) told)
    c.push_refusal.ensures.ok

pub returns-in_default-clause-steps : goal.returns-in_default-clause-steps
returns-in_default-clause-steps g c = omega arith

pub returns-in-Ok-clause-known : goal.returns-in-Ok-clause-known
returns-in-Ok-clause-known g c = record { indexed = c.requires.known.indexed; seen = c.back-answered.ensures.seen; keeps = c.back-answered.ensures.keep ∙ c.requires.known.keeps }

pub returns-in-Ok-clause-steps : goal.returns-in-Ok-clause-steps
returns-in-Ok-clause-steps g c =
    let entries = c.args.entries.now in
    let linkage = c.args.linkage in
    let told = c.in_ok-target.ensures linkage ∙ ap (target_telling linkage entries) c.in-Some.is in
    subst (λ (t : Telling). c.back-answered.new.steps ≤ c.args.steps.now + t.cost) (sym told)
    (cost-answered linkage entries c.in-Some.target c.in-Ok.answer c.args.steps.now c.back-answered.new.steps c.in-Ok.ensures.ok c.back-answered.ensures.bounded)

pub returns-in-Err-clause-known : goal.returns-in-Err-clause-known
returns-in-Err-clause-known g c = record { indexed = c.requires.known.indexed; seen = c.back-answered.ensures.seen; keeps = c.back-answered.ensures.keep ∙ c.requires.known.keeps }

pub returns-in-Err-clause-text : goal.returns-in-Err-clause-text
returns-in-Err-clause-text g c =
    let entries = c.args.entries.now in
    let linkage = c.args.linkage in
    let told = c.in_ok-target.ensures linkage ∙ ap (target_telling linkage entries) c.in-Some.is in
    put-failed linkage entries c.push_error.result (back_telling entries linkage c.args.sought.now) c.in-Some.target c.in-Err.error (string_bytes c.args.text.now) (string_bytes c.push_error.new.text) told c.in-Err.ensures.err
    c.push_error.ensures.ok c.push_error.ensures.known

pub returns-in_default-clause-known : goal.returns-in_default-clause-known
returns-in_default-clause-known g c = c.requires.known

pub returns-in_err-target-clause-known : goal.returns-in_err-target-clause-known
returns-in_err-target-clause-known g c = c.requires.known

pub returns-in_err-target-clause-steps : goal.returns-in_err-target-clause-steps
returns-in_err-target-clause-steps g c = omega arith

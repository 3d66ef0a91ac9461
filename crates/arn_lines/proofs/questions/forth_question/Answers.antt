use Rattle.std.proofs.Common.{◌++◌, ap, codes}
use Rattle.arn_lines.proofs.QuestionKinds.{IsForth-parts, no_forth}
use Rattle.arn_lines.proofs.questions.forth_question.Goals as goal

pub returns-in_err-linkage-clause-none : goal.returns-in_err-linkage-clause-none
returns-in_err-linkage-clause-none c =
    rw c.from_residual-in_err-linkage.ensures
    (no_forth c.args.text.now
    (λ linkage event from len forth.
    let parts = IsForth-parts c.args.text.now c.in_ok-word.word.now c.in_ok-word.rest.now linkage event from len c.in_ok-word.ensures.some forth in
    c.in_err-linkage.ensures.none linkage parts.0))

pub returns-in_err-event-clause-none : goal.returns-in_err-event-clause-none
returns-in_err-event-clause-none c =
    rw c.from_residual-in_err-event.ensures
    (no_forth c.args.text.now
    (λ linkage event from len forth.
    let parts = IsForth-parts c.args.text.now c.in_ok-word.word.now c.in_ok-word.rest.now linkage event from len c.in_ok-word.ensures.some forth in
    c.in_err-event.ensures.none event from len parts.1))

pub returns-clause-some : goal.returns-clause-some
returns-clause-some c = record {
  linkage_text = c.in_ok-word.word.now;
  numbers = c.in_ok-word.rest.now;
  is_linkage = c.in_ok-linkage.ensures.some;
  are_numbers = c.in_ok-event.ensures.some;
  is_text = ap (λ behind. codes "forth " ++ behind) c.in_ok-word.ensures.some.is_text;
}

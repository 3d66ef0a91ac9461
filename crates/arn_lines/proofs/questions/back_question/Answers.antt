use Rattle.std.proofs.Common.{◌++◌, ap, codes}
use Rattle.arn_lines.proofs.QuestionKinds.{IsBack-parts, no_back}
use Rattle.arn_lines.proofs.questions.back_question.Goals as goal

pub returns-in_default-linkage-clause-none : goal.returns-in_default-linkage-clause-none
returns-in_default-linkage-clause-none c =
    no_back c.args.text.now
    (λ linkage bytes back.
    let parts = IsBack-parts c.args.text.now c.in-Some.word.now c.in-Some.rest.now linkage bytes c.in-Some.ensures.some back in
    (rw c.in_default-linkage.is at c.linkage.ensures.none) linkage parts.0)

pub returns-in_default-2-clause-none : goal.returns-in_default-2-clause-none
returns-in_default-2-clause-none c =
    no_back c.args.text.now
    (λ linkage bytes back.
    let parts = IsBack-parts c.args.text.now c.in-Some.word.now c.in-Some.rest.now linkage bytes c.in-Some.ensures.some back in
    (rw c.in_default-2.is at c.in_ok-sought.ensures.none) bytes parts.1)

pub returns-clause-some : goal.returns-clause-some
returns-clause-some c = record {
  linkage_text = c.in-Some.word.now;
  sought_text = c.in-Some.rest.now;
  is_linkage = c.in-Some-linkage.ensures.some;
  is_sought = rw c.in-Some-2.is at c.in_ok-sought.ensures.some;
  is_text = ap (λ behind. codes "back " ++ behind) c.in-Some.ensures.some.is_text;
}

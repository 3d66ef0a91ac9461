use Rattle.arn_lines.proofs.QuestionKinds.{IsShow-moment, IsShow-parts, no_show}
use Rattle.arn_lines.proofs.questions.show_question.Goals as goal

pub returns-in_default-clause-none : goal.returns-in_default-clause-none
returns-in_default-clause-none c =
    no_show c.args.text.now
    (λ moment shown show.
    let lead = IsShow-moment c.args.text.now moment shown show in
    (rw c.in_default.is at c.next_number.ensures.none) moment lead.0 lead.1)

pub returns-in_default-2-clause-none : goal.returns-in_default-2-clause-none
returns-in_default-2-clause-none c =
    no_show c.args.text.now
    (λ moment shown show.
    (rw c.in_default-2.is at c.in_ok-aspect.ensures.none) shown
    (IsShow-parts c.args.text.now c.in-Some.rest.now c.in-Some.moment moment shown c.in-Some.ensures.some show).1)

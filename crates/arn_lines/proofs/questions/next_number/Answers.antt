use Rattle.arn_lines.proofs.Lists.{IsNumberAnd-word}
use Rattle.arn_lines.proofs.questions.next_number.Goals as goal

pub returns-in_err-number-clause-none : goal.returns-in_err-number-clause-none
returns-in_err-number-clause-none c =
    rw c.from_residual-in_err-number.ensures
    (λ n behind lead. c.in_err-number.ensures.none n (IsNumberAnd-word c.args.text.now c.in_ok-word.word.now c.in_ok-word.rest.now behind n c.in_ok-word.ensures.some lead).0)

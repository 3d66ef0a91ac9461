use Rattle.arn_lines.proofs.Keywords.{IsFile-parts, no_file_line}
use Rattle.arn_lines.proofs.grammar.file_line.Goals as goal

pub returns-in_default-2-clause-none : goal.returns-in_default-2-clause-none
returns-in_default-2-clause-none c =
    no_file_line c.args.text.now
    (λ name bytes file.
    let parts = IsFile-parts c.args.text.now c.in-Some.word.now c.in-Some.rest.now name bytes c.in-Some.ensures.some file in
    (rw c.in_default-2.is at c.in_ok-name.ensures.none) parts.0)

pub returns-in_default-3-clause-none : goal.returns-in_default-3-clause-none
returns-in_default-3-clause-none c =
    no_file_line c.args.text.now
    (λ name bytes file.
    let parts = IsFile-parts c.args.text.now c.in-Some.word.now c.in-Some.rest.now name bytes c.in-Some.ensures.some file in
    (rw c.in_default-3.is at c.in_ok-bytes.ensures.none) bytes parts.1)

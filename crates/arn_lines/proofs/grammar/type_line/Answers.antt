use Rattle.arn_lines.proofs.Keywords.{no_type_line}
use Rattle.arn_lines.proofs.grammar.type_line.Goals as goal

pub returns-in_default-clause-none : goal.returns-in_default-clause-none
returns-in_default-clause-none c = no_type_line c.args.text.now (rw c.in_default.is at c.in_ok-bytes.ensures.none)

use Rattle.arn_lines.proofs.texts.push_no_asm.Goals as goal

pub returns-clause-ok : goal.returns-clause-ok
returns-clause-ok c = c.push_line.ensures.ok

use Rattle.std.proofs.Common.{refl}
use Rattle.arn_lines.proofs.Keywords.{IsRun-number, no_run_above, no_run_line}
use Rattle.arn_lines.proofs.grammar.run_line.Goals as goal

pub returns-in_err-count-clause-none : goal.returns-in_err-count-clause-none
returns-in_err-count-clause-none c =
    rw c.from_residual.ensures
    (no_run_line c.args.text.now
    (λ count run. c.in_err-count.ensures.none count (IsRun-number c.args.text.now count run)))

pub returns-clause-none : goal.returns-clause-none
returns-clause-none c =
    rw c.then_some.ensures
    (no_run_above c.args.text.now c.in_ok-count.count _ c.in_ok-count.ensures.some refl)

use Rattle.std.proofs.Common.{◌≡◌, ◌++◌, ◌∙◌, List, [], drop, append-nil, sym, ap, arith}
use Rattle.std.proofs.lemmas.List.{drop_all}
use Rattle.arn_base.specs.declared.records.Origin.{Origin}
use Rattle.guest_files.specs.declared.runs.Run.{Run}
use Rattle.guest_files.specs.Runs.{origins_between}
use Rattle.guest_files.proofs.RunReads.{origins_between-none}
use Rattle.guest_files.proofs.runs.origins_between.Goals as goal
use Rattle.guest_files.proofs.runs.origins_between.Goals.{else-loop-number-test, then-loop-number-test+then-at-end}

pub returns-clause-origins : goal.returns-clause-origins
returns-clause-origins c =
    let items : List Run = c.args.runs.now.items in
    let rest : List Run = drop c.loop-number.number items in
    let none : origins_between rest c.loop-number.at c.args.end ≡ [] =
    elim c.loop-number-test.branch [
      | else-loop-number-test w ↦ ap (λ (rs : List Run). origins_between rs c.loop-number.at c.args.end) (drop_all c.loop-number.number items (omega (arith, w.loop-number-test.false, c.len-number-end.ensures)))
      | then-loop-number-test+then-at-end w ↦ origins_between-none rest c.loop-number.at c.args.end (omega (arith, w.if-at-end.true))
    ] in
    sym (append-nil c.loop-number.origins)
    ∙ ap (λ (os : List Origin). c.loop-number.origins ++ os) (sym none)
    ∙ c.loop-number.invariant.0

use Rattle.std.proofs.Common.{◌++◌, ◌∷◌, ◌∙◌, [], List, sym, ap}
use Rattle.arn_base.specs.declared.records.Origin.{Origin}
use Rattle.file_versions.proofs.Runs.{run-longer, run-begins}
use Rattle.file_versions.proofs.give.go_on.Goals as goal

pub returns-in-Some : goal.returns-in-Some
returns-in-Some c small =
    run-longer c.args.origins.now c.args.run c.in-Some.longer c.args.place (sym c.in-Some.is ∙ c.with_next.ensures small)

pub returns : goal.returns
returns c small =
    ap (λ (os : List Origin). os ++ c.single.result ∷ []) c.in_ok-push.ensures.ok
    ∙ ap (λ (o : Origin). (c.args.origins.now ++ c.args.run ∷ []) ++ o ∷ []) c.single.ensures
    ∙ run-begins c.args.origins.now c.args.run c.args.place (sym c.in_default.is ∙ c.with_next.ensures small)

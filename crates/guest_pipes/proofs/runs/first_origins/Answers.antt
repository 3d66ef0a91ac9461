use Rattle.std.proofs.Common.{◌≡◌, ℕ, ◌++◌, ◌∙◌, List, [], drop, append-nil, sym, ap, arith}
use Rattle.std.proofs.lemmas.List.{drop_all}
use Rattle.arn_base.specs.declared.records.Origin.{Origin}
use Rattle.guest_pipes.specs.declared.runs.Run.{Run}
use Rattle.guest_pipes.proofs.Cuts.{cut, cut-none, origins_of-cut}
use Rattle.guest_pipes.proofs.runs.first_origins.Goals as goal
use Rattle.guest_pipes.proofs.runs.first_origins.Goals.{else-loop-place-test, then-loop-place-test+then-left-eq0}

pub returns-clause-origins : goal.returns-clause-origins
returns-clause-origins c =
    let items : List Run = c.args.runs.now.items in
    let rest : List Run = drop c.loop-place.place items in
    let none : cut c.loop-place.at c.loop-place.left rest ≡ [] =
    elim c.loop-place-test.branch [
      | else-loop-place-test w ↦ ap (λ (rs : List Run). cut c.loop-place.at c.loop-place.left rs) (drop_all c.loop-place.place items (omega (arith, w.loop-place-test.false, c.len-place-end.ensures)))
      | then-loop-place-test+then-left-eq0 w ↦ ap (λ (n : ℕ). cut c.loop-place.at n rest) w.if-left-eq0.true ∙ cut-none c.loop-place.at rest
    ] in
    sym (append-nil c.loop-place.origins)
    ∙ ap (λ (os : List Origin). c.loop-place.origins ++ os) (sym none)
    ∙ c.loop-place.invariant.0
    ∙ sym (origins_of-cut c.args.gone c.args.count items c.requires)

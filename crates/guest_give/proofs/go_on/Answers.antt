use Rattle.std.proofs.Common.{◌+◌, ◌++◌, ◌∷◌, ◌∙◌, [], Bool, List, if◌then◌else◌, append_assoc, sym, ap}
use Rattle.arn_base.specs.declared.records.Origin.{Origin}
use Rattle.parts_model.specs.Tagged.{one_origin}
use Rattle.guest_give.proofs.RunForms.{with_place-last}
use Rattle.guest_give.proofs.go_on.Goals as goal

pub returns-then-is_next-clause-runs : goal.returns-then-is_next-clause-runs
returns-then-is_next-clause-runs c =
    let run = c.args.run in
    let kept = c.args.origins.now in
    ap (λ (b : Bool). kept ++ (if b then record run { len = run.len + 1 } ∷ [] else run ∷ one_origin c.args.place ∷ [])) (sym c.if-is_next.true ∙ c.is_next.ensures) ∙ sym (with_place-last kept run c.args.place)

pub returns-clause-runs : goal.returns-clause-runs
returns-clause-runs c =
    let run = c.args.run in
    let kept = c.args.origins.now in
    ap (λ (os : List Origin). os ++ c.single.result ∷ []) c.in_ok-push.ensures.ok
    ∙ append_assoc kept (run ∷ []) (c.single.result ∷ [])
    ∙ ap (λ (o : Origin). kept ++ (run ∷ o ∷ [])) c.single.ensures
    ∙ ap (λ (b : Bool). kept ++ (if b then record run { len = run.len + 1 } ∷ [] else run ∷ one_origin c.args.place ∷ [])) (sym c.if-is_next.false ∙ c.is_next.ensures)
    ∙ sym (with_place-last kept run c.args.place)

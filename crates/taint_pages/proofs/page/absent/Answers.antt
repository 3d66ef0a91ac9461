use Rattle.std.proofs.Common.{◌≡◌, ◌∷◌, ◌++◌, [], replicate, ap, ◌∙◌, arith}
use Rattle.std.proofs.lemmas.List.{replicate_more}
use Rattle.taint_pages.specs.declared.page.Page.TheVariants.{Absent}
use Rattle.taint_pages.proofs.page.absent.Goals as goal

pub loop-init : goal.loop-init
loop-init c = c.new-pages.ensures.items

pub loop-preserved : goal.loop-preserved
loop-preserved c = c.in_ok-push.ensures.items ∙ (ap (λ l. l ++ Absent ∷ []) c.loop.invariant ∙ replicate_more c.loop.counter Absent)

pub returns : goal.returns
returns c =
    let end : c.loop.counter ≡ c.args.count = omega (arith, c.loop.auto.counter-end, c.loop-test.false) in
    c.loop.invariant ∙ ap (λ n. replicate n Absent) end

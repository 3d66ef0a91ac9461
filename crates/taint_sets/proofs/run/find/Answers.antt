use Rattle.std.proofs.Common.{◌-◌, ◌<◌, sym, ap, ◌∙◌, arith}
use Rattle.std.proofs.lemmas.List.{get_or_default}
use Rattle.taint_sets.specs.Runs.{item_in, no_run}
use Rattle.taint_sets.proofs.Places.{found-at, found-none}
use Rattle.taint_sets.proofs.run.find.Goals as goal

pub returns-then-count-eq0 : goal.returns-then-count-eq0
returns-then-count-eq0 c = sym (found-none c.args.runs.now c.args.number c.begun-count.result c.begun-count.ensures.split c.if-count-eq0.true)

pub returns : goal.returns
returns c =
    let runs = c.args.runs.now in
    let count = c.begun-count.result in
    let most = c.begun-count.ensures.most in
    let some : 0 < count = omega (arith, c.if-count-eq0.false) in
    c.item_of.ensures
    ∙ (ap (λ run. item_in run c.args.number) (get_or_default runs (count - 1) _ no_run (omega (arith, some, most)))
    ∙ sym (found-at runs c.args.number count c.requires c.begun-count.ensures.split some most))

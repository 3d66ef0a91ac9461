use Rattle.std.proofs.Common.{◌<◌, sym, ◌∙◌, arith}
use Rattle.taint_sets.proofs.Stretches.{stretch-at}
use Rattle.taint_sets.proofs.run.stretch.Goals as goal

pub returns-clause-bytes : goal.returns-clause-bytes
returns-clause-bytes c k below =
    let some : 0 < c.begun-count.result = omega (arith, c.if-count-eq0.false) in
    stretch-at c.args.runs.now c.args.number c.begun-count.result k c.in_ok-item.item c.requires some c.begun-count.ensures.most (sym c.item_of.ensures ∙ c.in_ok-item.was) below

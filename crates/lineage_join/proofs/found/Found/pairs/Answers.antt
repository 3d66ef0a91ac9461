use Rattle.std.proofs.Common.{◌↔◌, List, Contains, map, subst, sym, ap, ◌∙◌}
use Rattle.std.proofs.lemmas.Result.{IfOk-weaker}
use Rattle.arn_base.specs.declared.records.Pair.{Pair}
use Rattle.lineage_join.specs.Hits.{pair_of}
use Rattle.lineage_join.proofs.Hits.{same-pairs}
use Rattle.lineage_join.proofs.found.Found.pairs.Goals as goal

pub returns-clause-members : goal.returns-clause-members
returns-clause-members c =
    let same = same-pairs c.self.inside.hits.items c.settle.new.hits.items c.settle.ensures.members in
    let settled = subst (λ (old : List Pair). (p : Pair) → Contains (map pair_of c.settle.new.hits.items) p ↔ Contains old p) c.self.view_is same in
    IfOk-weaker c.pairs_of.result _ _
    (λ list is. subst (λ (new : List Pair). (p : Pair) → Contains new p ↔ Contains c.args.self p) (sym (is ∙ ap (map pair_of) c.as_slice.ensures.value)) settled)
    c.pairs_of.ensures

use Rattle.std.proofs.Common.{List, map, subst}
use Rattle.arn_base.specs.declared.records.Pair.{Pair}
use Rattle.lineage_join.specs.declared.found.Hit.{Hit}
use Rattle.lineage_join.specs.Hits.{pair_of}
use Rattle.lineage_join.specs.Waits.{HasAlso}
use Rattle.lineage_join.proofs.Hits.{also-pairs, pushed-also}
use Rattle.lineage_join.proofs.found.Found.add.Goals as goal

pub returns-then-len-self : goal.returns-then-len-self
returns-then-len-self c =
    let hit : Hit = record { byte = c.args.byte; event = c.args.event; at = c.args.at } in
    subst (λ (old : List Pair). HasAlso old (pair_of hit) (map pair_of c.settle.new.hits.items)) c.self.view_is
    (also-pairs c.self.inside.hits.items c.push.new.self.items c.settle.new.hits.items hit (pushed-also c.self.inside.hits.items c.push.new.self.items hit c.in_ok-push.ensures.items) c.settle.ensures.members)

pub returns-else-len-self : goal.returns-else-len-self
returns-else-len-self c =
    let hit : Hit = record { byte = c.args.byte; event = c.args.event; at = c.args.at } in
    subst (λ (old : List Pair). HasAlso old (pair_of hit) (map pair_of c.push.new.self.items)) c.self.view_is
    (pushed-also c.self.inside.hits.items c.push.new.self.items hit c.in_ok-push.ensures.items)

use Rattle.std.proofs.Common.{rules, of_calls, nat_le}
use Rattle.std.proofs.lemmas.Fn.{always_returns_same}
use Rattle.taint_sets.proofs.Places.{partitioned, split-at}
use Rattle.taint_sets.proofs.run.begun.Goals as goal

pub returns-clause-split : goal.returns-clause-split
returns-clause-split c =
    split-at c.args.runs.now c.args.number c.partition_point.result
    (c.partition_point.ensures.partitioned (λ run. nat_le run.first c.args.number) (always_returns_same _ _ _ (λ a r f k. search (rules, of_calls))) (partitioned c.args.runs.now c.args.number c.requires))

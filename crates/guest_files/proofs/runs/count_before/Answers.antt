use Rattle.std.proofs.Common.{nat_lt, rules}
use Rattle.std.proofs.lemmas.List.Sorted.{IsPartitionPoint-from_clause, IsPartitionedBy-ltb}
use Rattle.guest_files.specs.declared.runs.Run.{Run}
use Rattle.guest_files.proofs.Counts.{count_before-point}
use Rattle.guest_files.proofs.runs.count_before.Goals as goal

pub returns-clause-count : goal.returns-clause-count
returns-clause-count c =
    let parted = IsPartitionedBy-ltb (λ (r : Run). r.start) _ c.args.place c.requires in
    let point = IsPartitionPoint-from_clause (λ (r : Run). nat_lt r.start c.args.place) _ _ c.partition_point.ensures.partitioned parted (λ a r q k. search rules) in
    count_before-point c.args.place c.args.runs.now c.partition_point.result c.partition_point.ensures.bound point.0 point.1

use Rattle.std.proofs.Common.{rules, of_calls, ◌∙◌}
use Rattle.std.proofs.lemmas.List.Sorted.{IsPartitionPoint-from_clause}
use Rattle.group_extents.specs.Extents.{is_felt}
use Rattle.group_extents.proofs.Points.{filter-point}
use Rattle.group_extents.proofs.extent.felt.Goals as goal

pub returns : goal.returns
returns c =
    let point = IsPartitionPoint-from_clause (is_felt c.args.entries.now c.args.until) _ _ c.partition_point-count.ensures.partitioned c.requires.parted (λ a r q k. search (rules, of_calls)) in
    c.split_at.ensures.front ∙ filter-point (is_felt c.args.entries.now c.args.until) c.args.slices.now c.partition_point-count.result c.partition_point-count.ensures.bound point.0 point.1

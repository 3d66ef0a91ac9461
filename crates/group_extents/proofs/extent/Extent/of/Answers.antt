use Rattle.std.proofs.Common.{◌≡◌, List, filter, Some, ap, sym, subst, ◌∙◌}
use Rattle.std.specs.List.Sorted.{IsPartitionedBy}
use Rattle.history_index.specs.declared.slices.SliceAt.{SliceAt}
use Rattle.group_extents.specs.Extents.{felt, is_felt}
use Rattle.group_extents.proofs.Points.{extent-is, slices-parted}
use Rattle.group_extents.proofs.extent.Extent.of.Goals as goal

pub felt-felt-requires : goal.felt-felt-requires
felt-felt-requires c = record {
  parted = subst (λ (xs : List SliceAt). IsPartitionedBy (is_felt c.args.entries.now c.args.until) xs) (sym (c.slices.ensures c.args.entries.now c.requires.indexed)) (slices-parted c.args.entries.now c.args.group c.args.until);
}

pub returns-in-Some : goal.returns-in-Some
returns-in-Some c =
    extent-is c.args.entries.now c.args.group c.args.until c.is_begun-is_begun.result c.felt-felt.result.now (Some c.in-Some.at.now) c.owed.result c.own_len.result c.is_begun-is_begun.ensures (felt-is c) c.in-Some.ensures.value c.owed.ensures c.own_len.ensures
  where
    felt-is : (c : goal.After-own_len) → c.felt-felt.result.now ≡ felt c.args.entries.now c.args.group c.args.until
    felt-is c = c.felt-felt.ensures ∙ ap (filter (is_felt c.args.entries.now c.args.until)) (c.slices.ensures c.args.entries.now c.requires.indexed)

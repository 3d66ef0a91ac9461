use Rattle.std.proofs.Common.{◌≡◌, sum_by, take}
use Rattle.history_model.specs.Groups.{count_of}
use Rattle.followed_pairs.proofs.count.count_all.Given as goal

abbrev pub invariant-loop-group : goal.invariant-loop-group
invariant-loop-group l = l.sum ≡ sum_by (count_of l._entries) (take l.group-index l.groups)

use Rattle.std.proofs.Common.{◌≡◌, false, take}
use Rattle.std.specs.List.{list_any}
use Rattle.query_model.specs.Forth as model
use Rattle.followed_pairs.proofs.copies.has_copy.Given as goal

abbrev pub invariant-loop-origin : goal.invariant-loop-origin
invariant-loop-origin l = list_any (model.is_copy l.asked.event l.asked.from l.asked.len) (take l.origin-index l.origins) ≡ false

use Rattle.std.proofs.Common.{◌≡◌, ◌+◌, drop}
use Rattle.history_model.specs.Broken.{origins_len}
use Rattle.history_index.proofs.check.have_len.Given as goal

abbrev pub invariant-loop-origin : goal.invariant-loop-origin
invariant-loop-origin l = origins_len l.origins + l.left ≡ origins_len (drop l.origin-index l.origins) + l.len

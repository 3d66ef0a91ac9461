use Rattle.std.proofs.Common.{◌≡◌, take}
use Rattle.log_store.specs.Log.{log_name}
use Rattle.log_store.proofs.frames.misnamed_at.Given as goal

abbrev pub invariant-loop-at : goal.invariant-loop-at
invariant-loop-at l = take l.at l.bytes ≡ take l.at log_name

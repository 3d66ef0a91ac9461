use Rattle.std.proofs.Common.{length}
use Rattle.log_store.proofs.Walks.{IsWalked}
use Rattle.log_store.proofs.frames.read_frames.Given as goal

abbrev pub invariant-loop-behind : goal.invariant-loop-behind
invariant-loop-behind l = IsWalked l.bytes l.entries.items l.end

abbrev pub decreases-loop-behind : goal.decreases-loop-behind
decreases-loop-behind l = length l.end

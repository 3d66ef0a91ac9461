use Rattle.taint_group.proofs.Releasing.{ReleasesTo}
use Rattle.taint_group.proofs.memories.release.Given as goal

abbrev pub invariant-loop-key : goal.invariant-loop-key
invariant-loop-key l = ReleasesTo l.members l.fn.memories.items l.memories.items l.key

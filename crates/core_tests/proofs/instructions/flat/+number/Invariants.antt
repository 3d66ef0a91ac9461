use Rattle.std.proofs.Common.{length}
use Rattle.core_tests.proofs.instructions.flat.+number.Given as goal

abbrev pub decreases-number : goal.decreases-number
decreases-number l = length l.bytes.now

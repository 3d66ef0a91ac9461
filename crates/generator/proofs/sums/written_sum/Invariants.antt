use Rattle.std.proofs.Common.{◌≡◌, ◌≤◌, ◌*◌, length, take, sum}
use Rattle.generator.specs.Sums.{written}
use Rattle.generator.proofs.sums.written_sum.Given as goal

abbrev pub invariant-loop-entry : goal.invariant-loop-entry
invariant-loop-entry l =
    (l.sum ≡ sum (written (take l.entry-index l.entries))) × (l.sum ≤ 255 * length (written (take l.entry-index l.entries)))

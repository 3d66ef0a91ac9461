use Rattle.std.proofs.Common.{◌≡◌, ◌≤◌, ◌+◌, ◌*◌, take, sum}
use Rattle.generator.proofs.sums.add_bytes.Given as goal

abbrev pub invariant-loop-byte : goal.invariant-loop-byte
invariant-loop-byte l = (l.sum ≡ l.start + sum (take l.byte-index l.bytes)) × (l.sum ≤ l.start + 255 * l.byte-index)

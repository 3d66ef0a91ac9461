use Rattle.std.proofs.Common.{◌≡◌, ◌+◌, drop}
use Rattle.replayer.specs.Parts.{part_len}
use Rattle.replayer.proofs.parts.part_end.Given as goal

abbrev pub invariant-loop-place : goal.invariant-loop-place
invariant-loop-place l = part_len (drop l.from l.entries) + l.from ≡ part_len (drop l.place l.entries) + l.place

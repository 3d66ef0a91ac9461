use Rattle.std.proofs.Common.{take}
use Rattle.history_index.specs.Indexes.{Indexes}
use Rattle.history_index.proofs.index.Index.extend.Given as goal

abbrev pub invariant-loop-place : goal.invariant-loop-place
invariant-loop-place l = Indexes l.self (take l.place l.entries)

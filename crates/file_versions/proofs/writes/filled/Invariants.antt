use Rattle.std.proofs.Common.{◌≡◌, ◌++◌, drop}
use Rattle.file_versions.specs.Cells.{filled}
use Rattle.file_versions.proofs.writes.filled.Given as goal

abbrev pub invariant-loop-cell : goal.invariant-loop-cell
invariant-loop-cell l = l.held.items ++ filled (drop l.cell-index l.cells) ≡ filled l.cells

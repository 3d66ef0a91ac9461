use Rattle.file_versions.specs.Cells.{write_of}
use Rattle.file_versions.proofs.Laying.{IsLaidTo}
use Rattle.file_versions.proofs.writes.lay_over.Given as goal

abbrev pub invariant-loop-place : goal.invariant-loop-place
invariant-loop-place l = IsLaidTo (write_of l.event l.at l.bytes) l.place l.initial.cells l.cells

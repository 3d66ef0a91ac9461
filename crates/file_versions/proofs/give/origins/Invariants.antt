use Rattle.std.proofs.Common.{take, All}
use Rattle.file_versions.specs.Cells.{IsCounted}
use Rattle.file_versions.proofs.Runs.{AreRuns, places_in}
use Rattle.file_versions.proofs.give.origins.Given as goal

abbrev pub invariant-loop-byte : goal.invariant-loop-byte
invariant-loop-byte l = All IsCounted l.held → AreRuns (places_in (take l.byte-index l.held)) l.origins l.last

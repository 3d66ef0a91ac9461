use Rattle.std.proofs.Common.{◌≡◌, ◌<◌, ℕ, length, drop}
use Rattle.parts_model.specs.Numbered.{nth}
use Rattle.file_versions.specs.Versions.{cell_after}
use Rattle.file_versions.specs.Tables.{writes_until}
use Rattle.file_versions.proofs.writes.lay_all.Given as goal

abbrev pub invariant-loop-writing : goal.invariant-loop-writing
invariant-loop-writing l =
    (place : ℕ) → place < length l.initial.cells
    → cell_after (writes_until l.moment l.file (drop l.writing-index l.writes)) place (nth l.cells place)
    ≡ cell_after (writes_until l.moment l.file l.writes) place (nth l.initial.cells place)

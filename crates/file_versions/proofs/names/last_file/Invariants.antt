use Rattle.std.proofs.Common.{◌≡◌, None, drop}
use Rattle.file_versions.specs.Tables.{file_after}
use Rattle.file_versions.proofs.names.last_file.Given as goal

abbrev pub invariant-loop-change : goal.invariant-loop-change
invariant-loop-change l =
    file_after l.moment (drop l.change-index l.changes) l.file ≡ file_after l.moment l.changes None

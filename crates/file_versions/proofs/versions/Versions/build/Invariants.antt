use Rattle.std.proofs.Common.{◌≡◌, ◌++◌, ◌+◌, ◌≤◌, ℕ, List, None, drop}
use Rattle.history_model.specs.Moments.{total}
use Rattle.file_versions.specs.Tables.{file_until, named_until, names_in, nothing_before, writes_in}
use Rattle.file_versions.proofs.versions.Versions.build.Given as goal

abbrev pub invariant-loop-entry : goal.invariant-loop-entry
invariant-loop-entry l =
    record {
      ran : l.before.ran + total (drop l.entry-index l.entries) ≡ total l.entries;
      events : l.before.events ≤ l.entry-index;
      files : l.before.files ≤ l.entry-index;
      total : l.versions.total ≡ total l.entries;
      names : (m : ℕ) (name : List ℕ) → named_until m name (names_in l.before (drop l.entry-index l.entries)) (file_until m name l.versions.names) ≡ named_until m name (names_in nothing_before l.entries) None;
      writes : l.versions.writes ++ writes_in l.before (drop l.entry-index l.entries) ≡ writes_in nothing_before l.entries;
    }

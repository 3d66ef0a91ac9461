use Rattle.std.proofs.Common.{◌≡◌, ◌+◌, ◌<◌, ◌≤◌, ◌^◌, ◌⊎◌, max, drop}
use Rattle.file_versions.specs.Versions.{reach}
use Rattle.file_versions.specs.Cells.{written_len}
use Rattle.file_versions.specs.Tables.{writes_until}
use Rattle.file_versions.proofs.writes.room.Given as goal

abbrev pub invariant-loop-writing : goal.invariant-loop-writing
invariant-loop-writing l =
    let rest = writes_until l.moment l.file (drop l.writing-index l.writes) in
    let all = writes_until l.moment l.file l.writes in
    record {
      few : l.end < 2 ^ 33;
      reach : reach all ≡ max l.end (reach rest);
      count : (written_len all ≤ l.count + written_len rest) ⊎ (2 ^ 33 ≤ l.count);
    }

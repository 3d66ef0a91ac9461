use Rattle.std.proofs.Common.{◌≡◌, ◌+◌, ◌≤◌, drop}
use Rattle.group_extents.specs.Extents.{own_len}
use Rattle.group_extents.proofs.extent.own_len.Given as goal

abbrev pub invariant-loop-place : goal.invariant-loop-place
invariant-loop-place l = record {
  told : own_len (drop l.from l.entries) ≡ l.count + own_len (drop l.place l.entries);
  few : l.count + l.from ≤ l.place;
}

use Rattle.std.proofs.Common.{◌≡◌, ◌++◌, ◌%◌, length}
use Rattle.std.specs.Prelude.{flat_map, All}
use Rattle.exchange_log.specs.Gives.{origin_fields, FitsOrigin}
use Rattle.exchange_log.proofs.origins.read_origins.Given as goal

abbrev pub invariant-loop-origin : goal.invariant-loop-origin
invariant-loop-origin l = record {
  read : flat_map origin_fields l.origins ++ l.left ≡ l.fields;
  fits : All FitsOrigin l.origins;
  whole : length l.left % 16 ≡ 0;
}

abbrev pub decreases-loop-origin : goal.decreases-loop-origin
decreases-loop-origin l = length l.left

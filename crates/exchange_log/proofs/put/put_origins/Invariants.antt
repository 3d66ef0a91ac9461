use Rattle.std.proofs.Common.{◌≡◌, ℕ, ◌<◌, ◌++◌, take, slice_index_or}
use Rattle.std.specs.Prelude.{flat_map}
use Rattle.arn_base.specs.declared.records.Origin.{Origin}
use Rattle.exchange_log.specs.Gives.{origin_fields, FitsOrigin}
use Rattle.exchange_log.proofs.put.put_origins.Given as goal

abbrev pub invariant-loop-origin : goal.invariant-loop-origin
invariant-loop-origin l =
    record {
      spelled : l.out.items ≡ l.initial.out.items ++ flat_map origin_fields (take l.origin-index l.origins);
      fits : (k : ℕ) (o : Origin) → k < l.origin-index → FitsOrigin (slice_index_or l.origins k o);
    }

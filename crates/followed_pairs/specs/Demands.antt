-- What is asked of bytes of an event.
use Rattle.std.specs.Prelude.{ℕ, ◌+◌, List, map}
use Rattle.std.specs.List.{range_with_len}
use Rattle.lineage_join.specs.declared.demand.Demand.{Demand}
use Rattle.lineage_join.specs.declared.demand.Demand.TheVariants as demand
use Rattle.lineage_join.specs.declared.demand.Place.TheVariants as place

abbrev pub byte_demand : ℕ → ℕ → ℕ → Demand
byte_demand event from k = demand.Event event (place.Byte (from + k)) k

-- so many bytes, from one on
abbrev pub byte_demands : ℕ → ℕ → ℕ → List Demand
byte_demands event from len = map (byte_demand event from) (range_with_len 0 len)

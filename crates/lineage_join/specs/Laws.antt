-- What is joined goes by items, and is told by its members and their order.
use Rattle.std.specs.Prelude.{◌≡◌, ℕ, List}
use Rattle.arn_base.specs.declared.records.Pair.{Pair}
use Rattle.arn_base.specs.declared.records.Record.{Record}
use Rattle.history_model.specs.Events.{event_at, how_many}
use Rattle.lineage_model.specs.Flow.{At}
use Rattle.lineage_model.specs.Joined.{Reaching, reached}
use Rattle.lineage_model.specs.Tracking.{EventByte}
use Rattle.lineage_model.specs.Pairs.{pairs_from}
use Rattle.lineage_join.specs.Rising.{IsRising, ArePairs}

-- what reaches a byte of an event of a history, where bytes of events have these items in their groups
abbrev pub reaches : List Record → (ℕ → At → List EventByte) → Reaching
reaches entries items = reached (event_at entries) items (how_many entries)

-- a rising list of exactly these pairs is the one that answers
abbrev pub PairsAreOne : Type 0
PairsAreOne = (sources : ℕ → List EventByte) (len : ℕ) (pairs : List Pair) → IsRising pairs → ArePairs sources len pairs → pairs ≡ pairs_from sources 0 len

-- the pairs that answer rise, and are exactly those of the sources
pub record AreTold (sources : ℕ → List EventByte) (len : ℕ) : Type 0 where
  pub rises : IsRising (pairs_from sources 0 len)
  pub members : ArePairs sources len (pairs_from sources 0 len)

abbrev pub PairsAreTold : Type 0
PairsAreTold = (sources : ℕ → List EventByte) (len : ℕ) → AreTold sources len

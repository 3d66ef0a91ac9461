-- What is asked of bytes of a file at a moment.
use Rattle.std.specs.Prelude.{◌≡◌, ℕ, ◌+◌, List, [], ◌∷◌, Option, None}
use Rattle.lineage_join.specs.declared.demand.Demand.{Demand}
use Rattle.lineage_join.specs.declared.demand.Demand.TheVariants as demand
use Rattle.lineage_join.specs.declared.demand.Place.TheVariants as place
use Rattle.parts_model.specs.declared.tagged.TaggedByte.{TaggedByte}
use Rattle.replay_steps.specs.declared.errors.QueryError.{QueryError}
use Rattle.replay_steps.specs.declared.errors.QueryError.TheVariants as error

-- byte k takes what the event byte has that last wrote it
abbrev pub writer_demand : ℕ → TaggedByte → Demand
writer_demand k b = demand.Event b.origin.event (place.Byte b.origin.at) k

-- so does each, from byte k on
abbrev pub writer_demands : ℕ → List TaggedByte → List Demand
writer_demands k [] = []
writer_demands k (b ∷ bytes) = writer_demand k b ∷ writer_demands (k + 1) bytes

-- a file that can't be told isn't there, or memory ran out
abbrev pub LacksVersion : Option (List TaggedByte) → QueryError → Type 0
LacksVersion version error.NoPoint = version ≡ None
LacksVersion version (error.Disagrees d) = ⊥
LacksVersion version error.NoMemory = Unit {0}

-- The bytes that went out and are reached by bytes of an event, as they are found.
use Rattle.std.specs.Prelude.{◌≡◌, ℕ, ◌+◌, ◌<◌, ◌==◌, ◌&&◌, nat_le, nat_lt, Bool, true, false, List, Contains, Option, Some, None}
use Rattle.arn_base.specs.declared.records.Pair.{Pair}
use Rattle.arn_base.specs.declared.records.Record.{Record}
use Rattle.acts_model.specs.Records.{event_len}
use Rattle.history_model.specs.Events.{event_at}
use Rattle.lineage_model.specs.Flow.{Byte}
use Rattle.lineage_model.specs.Joined.{Reaching}
use Rattle.query_model.specs.Sinks.{is_among, is_sink}
use Rattle.followed_pairs.specs.declared.asked.Asked.{Asked}

-- the event is a write of one of these groups to the outside
abbrev pub goes_out : List Record → List ℕ → ℕ → Option Record → Bool
goes_out entries groups n None = false
goes_out entries groups n (Some e) = is_sink e && is_among entries groups n

-- what is asked reaches byte `pair.at` of event n, of so many
pub record IsPairOf (reaching : Reaching) (asked : Asked) (n len : ℕ) (pair : Pair) : Type 0 where
  pub event : pair.event ≡ n
  pub inside : pair.at < len
  pub within : pair.byte < asked.len
  pub reached : Contains (reaching n (Byte pair.at)) (record { event = asked.event; at = Byte (asked.from + pair.byte) })

abbrev pub IsPairAt : Reaching → Asked → ℕ → Option Record → Pair → Type 0
IsPairAt reaching asked n None pair = ⊥
IsPairAt reaching asked n (Some e) pair = IsPairOf reaching asked n (event_len e) pair

-- and the event is such a write
pub record IsOutPair (reaching : Reaching) (entries : List Record) (groups : List ℕ) (asked : Asked) (n : ℕ) (pair : Pair) : Type 0 where
  pub out : goes_out entries groups n (event_at entries n) ≡ true
  pub is : IsPairAt reaching asked n (event_at entries n) pair

-- it comes before event n
abbrev pub IsOutBefore : Reaching → List Record → List ℕ → Asked → ℕ → Pair → Type 0
IsOutBefore reaching entries groups asked n pair = (m : ℕ) × (m < n) × IsOutPair reaching entries groups asked m pair

-- this source byte is one that is asked
abbrev pub is_asked : Asked → Pair → Bool
is_asked asked reached = (reached.event == asked.event) && (nat_le asked.from reached.at && nat_lt reached.at (asked.from + asked.len))

-- A byte of event n is reached by a byte that is asked: of a byte beside one that reaches it, the other way round
pub record IsTurned (asked : Asked) (n : ℕ) (reached pair : Pair) : Type 0 where
  pub event : reached.event ≡ asked.event
  pub at : reached.at ≡ asked.from + pair.byte
  pub within : pair.byte < asked.len
  pub sink : pair.event ≡ n
  pub byte : pair.at ≡ reached.byte

-- of one of these
abbrev pub TurnsOne : Asked → ℕ → List Pair → Pair → Type 0
TurnsOne asked n reached pair = (one : Pair) × Contains reached one × IsTurned asked n one pair

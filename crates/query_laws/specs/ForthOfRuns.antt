-- A query forward reads the same relation as one back, from the other side; and so what the tracking of every step gave.
use Rattle.std.specs.Prelude.{◌≡◌, ◌↔◌, ℕ, ◌+◌, ◌<◌, true, List, All, Contains, Some, None}
use Rattle.arn_base.specs.declared.records.Pair.{Pair}
use Rattle.arn_base.specs.declared.records.Record.{Record}
use Rattle.acts_model.specs.Records.{event_len}
use Rattle.rv64_model.specs.Carries.{Table}
use Rattle.arn_model.specs.Run.{Input, machine_after}
use Rattle.arn_model.specs.Tells.{HasNumbers}
use Rattle.history_model.specs.Broken.{first_broken}
use Rattle.history_model.specs.Events.{event_at}
use Rattle.history_model.specs.Moments.{total}
use Rattle.lineage_model.specs.Flow.{Byte}
use Rattle.lineage_model.specs.Joined.{Reaching}
use Rattle.log_model.specs.Records.{records}
use Rattle.query_model.specs.Sinks.{forth_disagreement, forth_pairs, is_sink}
use Rattle.query_model.specs.Sources.{reaching}
use Rattle.window_laws.specs.Blocks.{HasWholeBlocks}
use Rattle.query_laws.specs.OfRuns.{whole_points}

-- byte `pair.at` of its event went out, and byte `from + pair.byte` of the event that is asked about is in what reached it
pub record IsSinkPair (entries : List Record) (points : Reaching) (event from len : ℕ) (pair : Pair) : Type 0 where
  pub entry : Record
  pub there : event_at entries pair.event ≡ Some entry
  pub sink : is_sink entry ≡ true
  pub inside : pair.at < event_len entry
  pub asked : pair.byte < len
  pub reached : Contains (points pair.event (Byte pair.at)) (record { event = event; at = Byte (from + pair.byte) })

-- Exactly these pairs answer, by whatever groups the bytes came: none is lost by following only those to which they can have come.
abbrev pub ForthLosesNothing : Type 0
ForthLosesNothing =
    (table : Table) (entries : List Record) (event from len : ℕ) → first_broken entries ≡ None → All HasWholeBlocks entries
    → (pair : Pair) → Contains (forth_pairs table entries event from len) pair ↔ IsSinkPair entries (reaching table entries (total entries)) event from len pair

-- No groups disagree, and exactly those pairs answer whose byte has the source byte by the tracking of every step of the whole machine.
pub record AnswersRunForth (table : Table) (inputs : List Input) (event from len : ℕ) : Type 0 where
  pub agree : forth_disagreement (records inputs) event from len ≡ None
  pub pairs : (pair : Pair) → Contains (forth_pairs table (records inputs) event from len) pair ↔ IsSinkPair (records inputs) (whole_points table inputs) event from len pair

-- so it is on every run's records, under every table of operands
abbrev pub ForthIsOfRuns : Type 0
ForthIsOfRuns = (table : Table) (inputs : List Input) (event from len : ℕ) → HasNumbers (machine_after inputs).kernel → AnswersRunForth table inputs event from len

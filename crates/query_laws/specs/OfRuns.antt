-- What a lineage query answers on the records of a run.
use Rattle.std.specs.Prelude.{◌≡◌, ℕ, ◌+◌, ◌<◌, List, map, None}
use Rattle.rv64_model.specs.Carries.{Table}
use Rattle.arn_model.specs.Run.{Input, machine_after, run}
use Rattle.arn_model.specs.Tells.{HasNumbers}
use Rattle.history_model.specs.Events.{how_many}
use Rattle.lineage_model.specs.Flow.{At, Byte}
use Rattle.lineage_model.specs.Pairs.{pairs_from}
use Rattle.lineage_model.specs.Tracking.{EventByte}
use Rattle.lineage_model.specs.Whole.{whole}
use Rattle.log_model.specs.Records.{records}
use Rattle.query_model.specs.Answers.{event_pairs, first_disagreement, moment_of}
use Rattle.query_model.specs.Sources.{reaching}

-- the source bytes that each byte of an event has by the tracking of every step of a run
abbrev pub whole_points : Table → List Input → ℕ → At → List EventByte
whole_points table inputs = (whole table (map (λ s. s.moved) (run inputs))).tracked.points

-- No groups disagree; what reaches a byte of an event is what the tracking of every step gave it; and so are pairs.
pub record AnswersRun (table : Table) (inputs : List Input) : Type 0 where
  pub agree : (moment : ℕ) (groups : List ℕ) → first_disagreement (records inputs) moment groups ≡ None
  pub reaching : (event : ℕ) (at : At) → event < how_many (records inputs)
      → reaching table (records inputs) (moment_of (records inputs) event) event at ≡ whole_points table inputs event at
  pub pairs : (event from len : ℕ) → event < how_many (records inputs)
      → event_pairs table (records inputs) event from len ≡ pairs_from (λ k. whole_points table inputs event (Byte (from + k))) 0 len

-- so they are on every run's records, under every table of operands
abbrev pub QueriesAreOfRuns : Type 0
QueriesAreOfRuns = (table : Table) (inputs : List Input) → HasNumbers (machine_after inputs).kernel → AnswersRun table inputs

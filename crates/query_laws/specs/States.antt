-- What holds of a query about bytes that a process holds at a moment.
use Rattle.std.specs.Prelude.{◌≡◌, ℕ, true, List, All, flat_map, None, option_to_list}
use Rattle.arn_base.specs.declared.records.Record.{Record}
use Rattle.rv64_model.specs.Carries.{Table, operands}
use Rattle.rv64_model.specs.declared.linkage.Linkage.{Linkage}
use Rattle.acts_model.specs.Bodies.{body_at}
use Rattle.arn_model.specs.Run.{Input, machine_after, state_at}
use Rattle.arn_model.specs.Tells.{HasNumbers}
use Rattle.history_model.specs.Broken.{first_broken}
use Rattle.history_model.specs.Events.{event_at}
use Rattle.history_model.specs.Groups.{group_of}
use Rattle.history_model.specs.Moments.{lives_at}
use Rattle.lineage_join.specs.Fits.{IsThere}
use Rattle.lineage_join.specs.Laws.{reaches}
use Rattle.lineage_laws.specs.Laws.{whole_at}
use Rattle.lineage_model.specs.Flow.{At}
use Rattle.lineage_model.specs.Joined.{from_item}
use Rattle.lineage_model.specs.Pairs.{pairs_from}
use Rattle.lineage_model.specs.Tracking.{EventByte}
use Rattle.log_model.specs.Records.{records}
use Rattle.query_model.specs.Sources.{items_at}
use Rattle.query_model.specs.States.{HasByte, held_disagreement, held_items, held_pairs, held_sources, part_len, set_of}
use Rattle.query_model.specs.declared.held.Held.{Held}
use Rattle.window_laws.specs.Blocks.{HasWholeBlocks}
use Rattle.query_laws.specs.Received.{IsConnected}

-- Each item of a byte that a process holds is a byte that its event has, under the operands of a linkage.
abbrev pub HeldItemsAreThere : Type 0
HeldItemsAreThere =
    (linkage : Linkage) (entries : List Record) (held : Held) (k : ℕ) → first_broken entries ≡ None → All HasWholeBlocks entries → HasByte held.part k
    → All (λ item. IsThere (event_at entries item.event) item.at) (held_items (operands linkage) entries held k)

-- Items of connected groups at bytes that events have tell what these stand for.
abbrev pub HeldIsOfBytes : Type 0
HeldIsOfBytes =
    (linkage : Linkage) (entries : List Record) (held : Held) (items : ℕ → At → List EventByte) → first_broken entries ≡ None → All HasWholeBlocks entries
    → ((event : ℕ) (at : At) → IsConnected entries (option_to_list (group_of entries held.pid)) event → IsThere (event_at entries event) at
    → items event at ≡ items_at (operands linkage) entries held.moment event at)
    → (k : ℕ) → HasByte held.part k
    → flat_map (from_item (event_at entries) (reaches entries items)) (held_items (operands linkage) entries held k) ≡ held_sources (operands linkage) entries held k

-- the set that a byte of a process has by the tracking of every step of a run up to the moment
abbrev pub whole_set : Table → List Input → Held → ℕ → List EventByte
whole_set table inputs held k =
    set_of (whole_at table inputs held.moment).tracked held.pid held.part k (body_at (state_at inputs held.moment).bodies held.pid)

-- No groups disagree. What reaches a byte of a process that lives at the moment is what the tracking of every step gives it, and so are pairs.
pub record HoldsRun (table : Table) (inputs : List Input) (held : Held) : Type 0 where
  pub agree : held_disagreement (records inputs) held ≡ None
  pub sources : lives_at (records inputs) held.moment held.pid ≡ true → (k : ℕ) → held_sources table (records inputs) held k ≡ whole_set table inputs held k
  pub pairs : lives_at (records inputs) held.moment held.pid ≡ true
      → held_pairs table (records inputs) held ≡ pairs_from (whole_set table inputs held) 0 (part_len held.part)

-- so they are on every run's records, under every table of operands
abbrev pub StatesAreOfRuns : Type 0
StatesAreOfRuns = (table : Table) (inputs : List Input) (held : Held) → HasNumbers (machine_after inputs).kernel → HoldsRun table inputs held

-- At the bytes that events have, what groups alone tell can be joined, under the operands of a linkage.
use Rattle.std.specs.Prelude.{◌≡◌, ◌⊎◌, ℕ, List, [], All, Contains, None}
use Rattle.arn_base.specs.declared.records.Record.{Record}
use Rattle.rv64_model.specs.Carries.{Table, operands}
use Rattle.rv64_model.specs.declared.linkage.Linkage.{Linkage}
use Rattle.history_index.specs.Lookups.{groups_in}
use Rattle.history_model.specs.Broken.{first_broken}
use Rattle.history_model.specs.Events.{event_at, how_many}
use Rattle.lineage_join.specs.Fits.{AllFit, IsThere}
use Rattle.lineage_model.specs.Flow.{At}
use Rattle.lineage_model.specs.Joined.{reached}
use Rattle.lineage_model.specs.Tracking.{EventByte}
use Rattle.query_model.specs.Sources.{items_at, reaching}
use Rattle.window_laws.specs.Blocks.{HasWholeBlocks}
use Rattle.query_laws.specs.Received.{IsConnected}

-- these items are those of groups alone, each at a byte that its event has, or none
abbrev pub AreOfBytes : Table → List Record → ℕ → (ℕ → At → List EventByte) → Type 0
AreOfBytes table entries moment items =
    (event : ℕ) (at : At) → (items event at ≡ []) ⊎ (IsThere (event_at entries event) at × (items event at ≡ items_at table entries moment event at))

-- Such items can be joined. At other bytes, which no event has, groups alone may name bytes that no event has either.
abbrev pub ItemsFit : Type 0
ItemsFit =
    (linkage : Linkage) (entries : List Record) (moment : ℕ) (items : ℕ → At → List EventByte) → first_broken entries ≡ None
    → All HasWholeBlocks entries → AreOfBytes (operands linkage) entries moment items → AllFit entries items

-- Items of connected groups at bytes that events have tell what reaches these.
abbrev pub ReachingIsOfBytes : Type 0
ReachingIsOfBytes =
    (linkage : Linkage) (entries : List Record) (from : List ℕ) (moment : ℕ) (items : ℕ → At → List EventByte)
    → first_broken entries ≡ None → All HasWholeBlocks entries → All (Contains (groups_in entries)) from
    → ((event : ℕ) (at : At) → IsConnected entries from event → IsThere (event_at entries event) at → items event at ≡ items_at (operands linkage) entries moment event at)
    → (event : ℕ) (at : At) → IsConnected entries from event → IsThere (event_at entries event) at
    → reached (event_at entries) items (how_many entries) event at ≡ reaching (operands linkage) entries moment event at

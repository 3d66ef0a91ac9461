-- What holds of the groups that are asked forward, and of what their items alone tell.
use Rattle.std.specs.Prelude.{◌≡◌, ◌↔◌, ℕ, ◌<◌, true, List, All, Contains, Some, None, option_and_then}
use Rattle.arn_base.specs.declared.records.Record.{Record}
use Rattle.acts_model.specs.Records.{event_len}
use Rattle.rv64_model.specs.Carries.{operands}
use Rattle.rv64_model.specs.declared.linkage.Linkage.{Linkage}
use Rattle.exchange_graph.specs.Reach.{Lists}
use Rattle.history_index.specs.Lookups.{groups_in}
use Rattle.history_model.specs.Broken.{first_broken}
use Rattle.history_model.specs.Events.{event_at, how_many}
use Rattle.history_model.specs.Exchanges.{Forth, received}
use Rattle.history_model.specs.Groups.{event_group}
use Rattle.lineage_join.specs.Fits.{IsThere}
use Rattle.lineage_join.specs.Laws.{reaches}
use Rattle.lineage_model.specs.Flow.{At, Byte}
use Rattle.lineage_model.specs.Joined.{Reaching, is_source}
use Rattle.lineage_model.specs.Tracking.{EventByte}
use Rattle.query_model.specs.Forth.{first_groups, groups_forth, has_copy}
use Rattle.query_model.specs.Sinks.{is_among, is_sink, items_among, reaching_among, sinks_reached}
use Rattle.window_laws.specs.Blocks.{HasWholeBlocks}

-- the groups that are asked are those that can have received bytes from these, rising
abbrev pub ForthIsConnected : Type 0
ForthIsConnected =
    (entries : List Record) (from : List ℕ) → first_broken entries ≡ None → All (Contains (groups_in entries)) from
    → Lists (groups_forth entries from) (Forth entries from)

-- and there is one such list
abbrev pub ForthIsOne : Type 0
ForthIsOne =
    (entries : List Record) (from groups : List ℕ) → first_broken entries ≡ None → All (Contains (groups_in entries)) from
    → Lists groups (Forth entries from) → groups ≡ groups_forth entries from

-- at an event the group received a copy of one of these bytes
pub record TakesAt (entries : List Record) (event from len g n : ℕ) : Type 0 where
  pub group : event_group entries n ≡ Some g
  pub copy : has_copy event from len (option_and_then received (event_at entries n)) ≡ true

-- it did so at some event, or one of its processes made the event
pub data HadFirst (entries : List Record) (event from len g : ℕ) : Type 0 where
  Took : (n : ℕ) → n < how_many entries → TakesAt entries event from len g n → HadFirst entries event from len g
  Read : 0 < len → event_group entries event ≡ Some g → HadFirst entries event from len g

-- The groups that had the bytes of a source event first are exactly these.
abbrev pub FirstAreTold : Type 0
FirstAreTold =
    (entries : List Record) (event from len : ℕ) (e : Record) → first_broken entries ≡ None → event_at entries event ≡ Some e → is_source e ≡ true
    → (g : ℕ) → Contains (first_groups entries event from len) g ↔ HadFirst entries event from len g

-- byte `at` of event n went out of one of these groups, and byte k of the event reaches it
pub record IsReached (entries : List Record) (groups : List ℕ) (reaching : Reaching) (event k n at : ℕ) : Type 0 where
  pub entry : Record
  pub there : event_at entries n ≡ Some entry
  pub sink : is_sink entry ≡ true
  pub among : is_among entries groups n ≡ true
  pub inside : at < event_len entry
  pub reached : Contains (reaching n (Byte at)) (record { event = event; at = Byte k })

-- The bytes that a byte reaches are exactly these.
abbrev pub SinksAreReached : Type 0
SinksAreReached =
    (entries : List Record) (groups : List ℕ) (reaching : Reaching) (event k n at : ℕ)
    → Contains (sinks_reached entries groups reaching event k) (record { event = n; at = Byte at }) ↔ IsReached entries groups reaching event k n at

-- at the bytes that events have, these items are those of the groups alone
abbrev pub AreAmong : Linkage → List Record → List ℕ → ℕ → (ℕ → At → List EventByte) → Type 0
AreAmong linkage entries groups moment items =
    (event : ℕ) (at : At) → IsThere (event_at entries event) at → items event at ≡ items_among (operands linkage) entries groups moment event at

-- Such items tell what reaches the bytes that events have, by these groups alone.
abbrev pub ReachingIsAmong : Type 0
ReachingIsAmong =
    (linkage : Linkage) (entries : List Record) (groups : List ℕ) (moment : ℕ) (items : ℕ → At → List EventByte) → first_broken entries ≡ None
    → All HasWholeBlocks entries → AreAmong linkage entries groups moment items → (event : ℕ) (at : At) → IsThere (event_at entries event) at
    → reaches entries items event at ≡ reaching_among (operands linkage) entries groups moment event at

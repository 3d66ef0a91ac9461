-- What holds of groups alone, for who follows their members.
use Rattle.std.specs.Prelude.{◌≡◌, ℕ, true, false, IfSome, IsSome, List, [], Option, None, Some, flat_map}
use Rattle.std.specs.List.{All}
use Rattle.arn_base.specs.declared.records.Record.{Record}
use Rattle.rv64_model.specs.declared.linkage.Linkage.{Linkage}
use Rattle.rv64_model.specs.Carries.{Table, operands}
use Rattle.acts_model.specs.Moved.{Inside}
use Rattle.history_model.specs.Alone.{Own, Makes, alone}
use Rattle.acts_model.specs.Records.{event_len}
use Rattle.history_model.specs.Broken.{first_broken}
use Rattle.history_model.specs.Events.{event_at}
use Rattle.history_model.specs.Exchanges.{founded}
use Rattle.lineage_model.specs.Flow.{At, Byte}
use Rattle.lineage_model.specs.Tracking as tracking
use Rattle.replay_steps.specs.Notices.{Listener, Told, notices}
use Rattle.taint_state.specs.Goes.{ArePossible, Hearing, TakesBegin, TakesInstr, TakesEvent, hearings_of, nothing_tracked}
use Rattle.taint_state.specs.Shown.{Shows, Tracking}
use Rattle.taint_state.specs.Steps.{holders_of}
use Rattle.taint_laws.specs.Follows.{AreNew, AreSteps, heard_from, holders_from, holders_in, none_heard, none_holds}
use Rattle.window_laws.specs.Blocks.{HasWholeBlocks}

-- the steps are those of members, are possible, are events that weren't heard before, and come to what the bodies hold
pub record Followed (own : Own) : Type 0 where
  pub steps : AreSteps none_holds own.inside
  pub possible : ArePossible none_holds none_heard own.inside
  pub new : AreNew none_heard own.inside
  pub holds : (pid : ℕ) → holders_in own.bodies pid ≡ holders_from own.inside none_holds pid

-- so are all groups alone, at each moment of a list of records that isn't broken
abbrev pub FollowsHolders : Type 0
FollowsHolders = (entries : List Record) (g moment : ℕ) (own : Own) → first_broken entries ≡ None → All HasWholeBlocks entries → alone entries g moment ≡ Makes own → Followed own

-- what is said of each call to who keeps something that shows a group so far
abbrev pub following : {A : Type 0} → (A → Tracking) → Listener A
following shown =
    record {
      begins = λ x pid event parent y. TakesBegin (shown x) pid event parent (shown y);
      runs = λ x pid instr before y. TakesInstr (shown x) pid instr before (shown y);
      hears = λ x event e before y. TakesEvent (shown x) event e before (shown y);
    }

-- Told of steps, one after the other, from nothing on, it shows what tracking them alone by lists says.
abbrev pub ToldShows : {A : Type 0} → (A → Tracking) → Type 0
ToldShows {A} shown =
    (linkage : Linkage) (list : List Inside) (x y : A) → AreSteps none_holds list → ArePossible none_holds none_heard list → AreNew none_heard list
    → shown x ≡ nothing_tracked linkage → Told (following shown) (flat_map notices list) x y → Shows (shown y) (tracking.alone (operands linkage) list)

-- and it has heard the events of these steps
abbrev pub ToldHears : {A : Type 0} → (A → Tracking) → Type 0
ToldHears {A} shown =
    (linkage : Linkage) (list : List Inside) (x y : A) → AreSteps none_holds list → ArePossible none_holds none_heard list → AreNew none_heard list
    → shown x ≡ nothing_tracked linkage → Told (following shown) (flat_map notices list) x y → (event : ℕ) → hearings_of (shown y) event ≡ heard_from list none_heard event

-- and its members hold what those of these steps hold
abbrev pub ToldHolds : {A : Type 0} → (A → Tracking) → Type 0
ToldHolds {A} shown =
    (linkage : Linkage) (list : List Inside) (x y : A) → AreSteps none_holds list → ArePossible none_holds none_heard list → AreNew none_heard list
    → shown x ≡ nothing_tracked linkage → Told (following shown) (flat_map notices list) x y → (pid : ℕ) → holders_of (shown y) pid ≡ holders_from list none_holds pid

-- an event that wasn't heard shows nothing, and one that started no group shows no byte with which a child begins
abbrev pub ShowsNothing : Option Hearing → At → Type 0
ShowsNothing None at = Unit {0}
ShowsNothing (Some hearing) (Byte k) = ⊥
ShowsNothing (Some hearing) at = hearing.founds ≡ false

abbrev pub UnheardHaveNone : Type 0
UnheardHaveNone =
    (table : Table) (list : List Inside) (event : ℕ) (at : At) → ShowsNothing (heard_from list none_heard event) at → (tracking.alone table list).points event at ≡ []

-- what was heard is an event of the history: it has as many bytes, and a fork that started a group did so
pub record IsHearingOf (e : Record) (hearing : Hearing) : Type 0 where
  pub len : hearing.len ≡ event_len e
  pub founds : hearing.founds ≡ true → IsSome (founded e)

abbrev pub IsHeard : Option Record → Hearing → Type 0
IsHeard None hearing = ⊥
IsHeard (Some e) hearing = IsHearingOf e hearing

-- so are all events that a group hears
abbrev pub HearsEvents : Type 0
HearsEvents =
    (entries : List Record) (g moment : ℕ) (own : Own) → alone entries g moment ≡ Makes own → (event : ℕ)
    → IfSome (heard_from own.inside none_heard event) (IsHeard (event_at entries event))

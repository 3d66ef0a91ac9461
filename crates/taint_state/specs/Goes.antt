-- How a tracker goes on: as the definition of tracking by lists says.
use Rattle.std.specs.Prelude.{◌≡◌, ◌≢◌, ℕ, ◌==◌, Bool, if◌then◌else◌, List, [], ◌∷◌, Option, Some, None, IfSome, IsNone, option_map}
use Rattle.arn_base.specs.declared.machine.Cpu.{Cpu}
use Rattle.arn_base.specs.declared.records.Record.{Record}
use Rattle.rv64_isa.specs.declared.instruction.Instr.{Instr}
use Rattle.rv64_model.specs.declared.linkage.Linkage.{Linkage}
use Rattle.rv64_model.specs.Carries.{operands}
use Rattle.acts_model.specs.Moved.{Event, Inside}
use Rattle.acts_model.specs.Records.{event_len}
use Rattle.acts_model.specs.Transfers.{Holds, Transfer, Arrives, Starts, Runs, Returns, Receives, Gives, Forks, Founds, Begins, Shares, Delivers, Leaves, Exits, Faults, Dies}
use Rattle.lineage_model.specs.Tracking.{EventByte, Tracked, alone_after}
use Rattle.taint_flow.specs.Names.{loaded_len}
use Rattle.taint_state.specs.Shown.{Heard, Shows, Tracking}
use Rattle.taint_state.specs.Steps.{Holders, IsWhole, event_step, founds, holders_of, holders_after, instr_step}

-- a member holds no memory of this name
pub record IsUnheldBy (made : ℕ) (h : Holds) : Type 0 where
  pub window : h.window ≢ made
  pub segment : h.segment ≢ Some made

-- no live member does
abbrev pub IsUnheld : Holders → ℕ → Type 0
IsUnheld h made = (p : ℕ) → IfSome (h p) (IsUnheldBy made)

-- none but this one does
abbrev pub IsOwn : Holders → ℕ → ℕ → Type 0
IsOwn h pid made = (p : ℕ) → p ≢ pid → IfSome (h p) (IsUnheldBy made)

-- which events were heard: how many bytes each has, and whether it is a fork that started a group
pub record Hearing : Type 0 where
  pub len : ℕ
  pub founds : Bool

abbrev pub hearing_of : Heard → Hearing
hearing_of heard = record { len = heard.len; founds = heard.founds }

abbrev pub Hearings : Type 0
Hearings = ℕ → Option Hearing

abbrev pub hearings_of : Tracking → Hearings
hearings_of x event = option_map hearing_of (x.heard event)

-- Which were heard after a step. The fork that starts the group at hand is an event of another group.
abbrev pub heard_at : Transfer → Event → Hearings → Hearings
heard_at (Begins pid made) event heard e = heard e
heard_at transfer event heard e =
    if e == event.number then Some (record { len = event_len event.entry; founds = founds transfer }) else heard e

abbrev pub heard_after : Inside → Hearings → Hearings
heard_after inside heard e = heard_by inside.event where
  heard_by : Option Event → Option Hearing
  heard_by None = heard e
  heard_by (Some event) = heard_at inside.transfer event heard e

-- No window of a live member is a segment of one.
pub record AreApart (h : Holders) : Type 0 where
  pub kinds : (p q : ℕ) (a b : Holds) → h p ≡ Some a → h q ≡ Some b → b.segment ≢ Some a.window

-- What a machine's steps keep: a memory that is made is new, so is a child and the event by which a group begins, and what is read lies
-- whole in a window.
abbrev pub IsPossible : Holders → Hearings → Transfer → Type 0
IsPossible h heard (Arrives len) = Unit {0}
IsPossible h heard (Starts pid made load len block block_len) = IsOwn h pid made × IsWhole block block_len
IsPossible h heard (Runs pid instr place) = IsWhole place (loaded_len instr)
IsPossible h heard (Returns pid) = Unit {0}
IsPossible h heard (Receives pid place len) = Unit {0}
IsPossible h heard (Gives pid place len) = IsWhole place len
IsPossible h heard (Forks pid child from into) = IsUnheld h into × IsNone (h child)
IsPossible h heard (Founds pid child from into) = IsUnheld h into × IsNone (h child)
IsPossible h heard (Begins pid made) = IsOwn h pid made × IsNone (heard made)
IsPossible h heard (Shares pid made) = IsUnheld h made
IsPossible h heard (Delivers pid cut) = Unit {0}
IsPossible h heard (Leaves pid) = Unit {0}
IsPossible h heard (Exits pid) = Unit {0}
IsPossible h heard (Faults pid) = Unit {0}
IsPossible h heard (Dies pid) = Unit {0}

-- It goes on by a step: what members hold and which events were heard follows the step; and where the step is possible and the memories of
-- members lie apart, what was shown goes on as tracking by lists does.
pub record GoesBy (inside : Inside) (x y : Tracking) : Type 0 where
  pub linkage : y.linkage ≡ x.linkage
  pub holders : (pid : ℕ) → holders_of y pid ≡ holders_after inside.transfer (holders_of x) pid
  pub heard : (event : ℕ) → hearings_of y event ≡ heard_after inside (hearings_of x) event
  pub shows : AreApart (holders_of x) → IsPossible (holders_of x) (hearings_of x) inside.transfer → (t : Tracked EventByte) → Shows x t → Shows y (alone_after (operands x.linkage) inside t)

-- nothing is changed where there is no step
abbrev pub GoesIf : Option Inside → Tracking → Tracking → Type 0
GoesIf None x y = y ≡ x
GoesIf (Some inside) x y = GoesBy inside x y

-- The three calls by which a tracker is told. A member begins without a parent: of the event no more than its number matters. One with a
-- parent began with the fork itself.
abbrev pub begin_inside : ℕ → ℕ → Record → Cpu → Inside
begin_inside pid event e before =
    record { actor = Some pid; before = before; transfer = Begins pid event; event = Some (record { number = event; entry = e }) }

abbrev pub TakesBegin : Tracking → ℕ → ℕ → Option ℕ → Tracking → Type 0
TakesBegin x pid event None y = (e : Record) (before : Cpu) → GoesBy (begin_inside pid event e before) x y
TakesBegin x pid event (Some parent) y = y ≡ x

abbrev pub TakesInstr : Tracking → ℕ → Instr → Cpu → Tracking → Type 0
TakesInstr x pid instr before y = GoesIf (instr_step (holders_of x) pid instr before) x y

abbrev pub TakesEvent : Tracking → ℕ → Record → Cpu → Tracking → Type 0
TakesEvent x event e before y = GoesIf (event_step (holders_of x) event e before) x y

-- no member, no event
abbrev pub nothing_tracked : Linkage → Tracking
nothing_tracked linkage = record { linkage = linkage; members = λ pid. None; heard = λ event. None }

-- all are possible
abbrev pub ArePossible : Holders → Hearings → List Inside → Type 0
ArePossible h heard [] = Unit {0}
ArePossible h heard (inside ∷ list) =
    IsPossible h heard inside.transfer × ArePossible (holders_after inside.transfer h) (heard_after inside heard) list

-- memories that lie apart still do after a step that is possible
abbrev pub StayApart : Type 0
StayApart = (h : Holders) (heard : Hearings) (transfer : Transfer) → AreApart h → IsPossible h heard transfer → AreApart (holders_after transfer h)

-- How what is kept changes by an event of a member.
use Rattle.std.specs.Prelude.{◌≡◌, ◌≢◌, ℕ, ◌+◌, ◌-◌, ◌==◌, Bool, false, if◌then◌else◌, List, [], length, slice_index, Option, Some, None, option_map}
use Rattle.arn_base.specs.declared.machine.Cpu.{Cpu}
use Rattle.arn_base.specs.declared.records.Record.{Record}
use Rattle.parts_model.specs.declared.limits.TheConstants.{SEGMENT_LEN, SEGMENT_START, WINDOW_START}
use Rattle.parts_model.specs.Numbered.{nth}
use Rattle.taint_spans.specs.Numbered.{StandAsBefore}
use Rattle.acts_model.specs.Moved.{Inside}
use Rattle.acts_model.specs.Transfers.{Transfer, is_private, is_shared}
use Rattle.taint_events.specs.Beginning.{AreItemsFrom, AreItemsOfRow, BeginsRegisters}
use Rattle.taint_events.specs.Starting.{IsStarted}
use Rattle.taint_members.specs.Access.{ByTest}
use Rattle.taint_pages.specs.Pages.{Puts}
use Rattle.taint_members.specs.Rows.{AreZero, ClearsResult, IsSaved}
use Rattle.taint_state.specs.Kept.{Kept, KeptHeard, KeptMember, KeptStart, heard_among}
use Rattle.taint_state.specs.Shown.{register_bytes}
use Rattle.taint_state.specs.Steps.{fresh_holds}

-- the linkage is as before, and sets stand as before
pub record Stays (x y : Kept) : Type 0 where
  pub linkage : y.linkage ≡ x.linkage
  pub sets : StandAsBefore x.sets y.sets

-- one event is heard, and all others are as before
pub record Hears (heard : KeptHeard) (old new : List KeptHeard) : Type 0 where
  pub found : heard_among new heard.event ≡ Some heard
  pub others : (event : ℕ) → event ≢ heard.event → heard_among new event ≡ heard_among old event

-- one member is this, and all others are as before
pub record PutsMember (pid : ℕ) (m : Option KeptMember) (old new : List (Option KeptMember)) : Type 0 where
  pub one : nth new pid ≡ m
  pub others : (p : ℕ) → p ≢ pid → nth new p ≡ nth old p

-- both hold one segment
abbrev pub is_one : Option ℕ → Option ℕ → Bool
is_one (Some made) (Some other) = made == other
is_one held other = false

-- who holds a memory of a member keeps of it what that member keeps
abbrev pub sees : KeptMember → KeptMember → KeptMember
sees new m =
    record m {
      window = if m.holds.window == new.holds.window then new.window else m.window;
      segment = if is_one m.holds.segment new.holds.segment then new.segment else m.segment;
    }

-- one member is this, and all others are as before, but for what they see of its memories
pub record PutsSeen (pid : ℕ) (m : KeptMember) (old new : List (Option KeptMember)) : Type 0 where
  pub one : nth new pid ≡ Some m
  pub others : (p : ℕ) → p ≢ pid → nth new p ≡ option_map (sees m) (nth old p)

-- an event whose bytes have these numbers
abbrev pub plain_heard : ℕ → List ℕ → KeptHeard
plain_heard event numbers = record { event = event; numbers = numbers; start = None }

-- A live member becomes another, or lives no more, by an event that is heard.
pub record Becomes (pid : ℕ) (old : KeptMember) (m : Option KeptMember) (event : KeptHeard) (x y : Kept) : Type 0 where
  pub was : nth x.members pid ≡ Some old
  pub stays : Stays x y
  pub members : PutsMember pid m x.members y.members
  pub heard : Hears event x.heard y.heard

-- the result of a call takes nothing
pub record ReturnsTo (old new : KeptMember) : Type 0 where
  pub result : ClearsResult old.registers new.registers
  pub others : new ≡ record old { registers = new.registers }

-- the slot keeps the registers
pub record DeliversTo (cut : Bool) (old new : KeptMember) : Type 0 where
  pub saved : IsSaved cut old.registers new.slot
  pub result : ClearsResult old.registers new.registers
  pub others : new ≡ record old { registers = new.registers; slot = new.slot }

-- and gives them back
pub record LeavesTo (old new : KeptMember) : Type 0 where
  pub slot : AreZero new.slot
  pub others : new ≡ record old { registers = old.slot; slot = new.slot }

-- a fresh segment takes nothing
pub record SharesTo (made : ℕ) (old new : KeptMember) : Type 0 where
  pub result : ClearsResult old.registers new.registers
  pub whole : length new.segment ≡ SEGMENT_LEN
  pub zeros : (k : ℕ) → slice_index new.segment k ≡ 0
  pub others : new ≡ record old {
    holds = record { window = old.holds.window; segment = Some made };
    registers = new.registers;
    segment = new.segment;
  }

-- a child in its parent's group has what its parent has, but for the result
pub record ForksTo (made : ℕ) (old child : KeptMember) : Type 0 where
  pub result : ClearsResult old.registers child.registers
  pub others : child ≡ record old { holds = record { window = made; segment = old.holds.segment }; registers = child.registers }

-- and so has one that starts a group
pub record FoundsTo (old : KeptMember) (start : KeptStart) : Type 0 where
  pub result : ClearsResult old.registers start.registers
  pub slot : start.slot ≡ old.slot
  pub window : start.window ≡ old.window

-- a live member becomes another, and a child begins
pub record BecomesTwo (pid child : ℕ) (old new kid : KeptMember) (event : KeptHeard) (x y : Kept) : Type 0 where
  pub was : nth x.members pid ≡ Some old
  pub stays : Stays x y
  pub parent : pid ≢ child → nth y.members pid ≡ Some new
  pub begins : nth y.members child ≡ Some kid
  pub others : (p : ℕ) → p ≢ pid → p ≢ child → nth y.members p ≡ option_map (sees kid) (nth x.members p)
  pub heard : Hears event x.heard y.heard

-- the numbers of a segment that may be held are others, from a place on
abbrev pub WritesHeld : ℕ → List ℕ → Option ℕ → List ℕ → List ℕ → Type 0
WritesHeld place numbers None old new = new ≡ old
WritesHeld place numbers (Some made) old new = Puts place numbers old new

-- a member receives bytes from an address on, as far as they lie in the same memory
pub record ReceivesTo (at : ℕ) (numbers : List ℕ) (old new : KeptMember) : Type 0 where
  pub result : ClearsResult old.registers new.registers
  pub window : ByTest (is_private at) (Puts (at - WINDOW_START) numbers old.window new.window) (new.window ≡ old.window)
  pub segment : ByTest (is_shared at) (WritesHeld (at - SEGMENT_START) numbers old.holds.segment old.segment new.segment) (new.segment ≡ old.segment)
  pub others : new ≡ record old { registers = new.registers; window = new.window; segment = new.segment }

-- a live member becomes another, of whose memories the others keep the same
pub record BecomesShared (pid : ℕ) (old new : KeptMember) (event : KeptHeard) (x y : Kept) : Type 0 where
  pub was : nth x.members pid ≡ Some old
  pub stays : Stays x y
  pub members : PutsSeen pid new x.members y.members
  pub heard : Hears event x.heard y.heard

-- the number of byte k from an address on, in the memory in which the address lies
abbrev pub number_at : KeptMember → ℕ → ℕ → ℕ
number_at m at k =
    if is_private at then slice_index m.window (at - WINDOW_START + k) else if is_shared at then slice_index m.segment (at - SEGMENT_START + k) else 0

-- a member starts anew from an image whose file has these numbers, with an argument block from its old memory
pub record StartsTo (made load : ℕ) (numbers : List ℕ) (block block_len : ℕ) (old new : KeptMember) : Type 0 where
  pub holds : new.holds ≡ fresh_holds made
  pub registers : AreZero new.registers
  pub slot : AreZero new.slot
  pub window : IsStarted load numbers (number_at old block) block_len new.window
  pub segment : new.segment ≡ []

-- a member that begins without a parent
pub record BeginsTo (y : Kept) (event : ℕ) (new : KeptMember) : Type 0 where
  pub holds : new.holds ≡ fresh_holds event
  pub registers : BeginsRegisters y.sets event new.registers
  pub slot : AreItemsOfRow y.sets event register_bytes new.slot
  pub window : AreItemsFrom y.sets event new.window
  pub segment : new.segment ≡ []

-- it begins
pub record Begins (pid event : ℕ) (new : KeptMember) (x y : Kept) : Type 0 where
  pub linkage : y.linkage ≡ x.linkage
  pub sets : StandAsBefore x.sets y.sets
  pub heard : (e : ℕ) → heard_among y.heard e ≡ heard_among x.heard e
  pub members : PutsSeen pid new x.members y.members

-- a step of a member by an event
abbrev pub event_by_member : ℕ → Cpu → Transfer → ℕ → Record → Inside
event_by_member pid before transfer event e =
    record { actor = Some pid; before = before; transfer = transfer; event = Some (record { number = event; entry = e }) }

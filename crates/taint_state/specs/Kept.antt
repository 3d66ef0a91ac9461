-- What a tracker keeps: numbers of sets, as lists; and what it shows by them.
use Rattle.std.specs.Prelude.{ℕ, ◌-◌, ◌==◌, if◌then◌else◌, List, [], ◌∷◌, length, slice_index, Option, Some, None, is_some, option_map}
use Rattle.rv64_model.specs.declared.linkage.Linkage.{Linkage}
use Rattle.parts_model.specs.declared.limits.TheConstants.{WINDOW_START, SEGMENT_START}
use Rattle.parts_model.specs.Numbered.{nth}
use Rattle.set_store.specs.declared.item.Item.{Item}
use Rattle.acts_model.specs.Transfers.{Holds}
use Rattle.lineage_model.specs.Flow.{At, Byte, StartRegister, StartSlot, StartMemory}
use Rattle.taint_pages.specs.Rows.{byte_in}
use Rattle.taint_state.specs.Shown.{Heard, Member, Tracking}
use Rattle.taint_spans.specs.Numbered.{Numbered, members_of}

-- a live member: the memories that it holds, and the numbers of each byte
pub record KeptMember : Type 0 where
  pub holds : Holds
  pub registers : List ℕ
  pub slot : List ℕ
  pub window : List ℕ
  pub segment : List ℕ

-- the bytes with which a child began that started a group
pub record KeptStart : Type 0 where
  pub registers : List ℕ
  pub slot : List ℕ
  pub window : List ℕ

-- an event: the numbers of its bytes
pub record KeptHeard : Type 0 where
  pub event : ℕ
  pub numbers : List ℕ
  pub start : Option KeptStart

-- all of it
pub record Kept : Type 0 where
  pub linkage : Linkage
  pub sets : Numbered
  pub members : List (Option KeptMember)
  pub heard : List KeptHeard

-- the items for which a number stands
abbrev pub items_of : Kept → ℕ → List Item
items_of kept number = members_of kept.sets number

-- byte i of register r
abbrev pub register_items : Kept → List ℕ → ℕ → ℕ → List Item
register_items kept row r i = items_of kept (byte_in row r i)

abbrev pub shown_member : Kept → KeptMember → Member
shown_member kept m =
    record {
      holds = m.holds;
      registers = register_items kept m.registers;
      slot = register_items kept m.slot;
      window = λ at. items_of kept (slice_index m.window (at - WINDOW_START));
      segment = λ at. items_of kept (slice_index m.segment (at - SEGMENT_START));
    }

-- a byte with which a child began
abbrev pub start_items : Kept → Option KeptStart → At → List Item
start_items kept None at = []
start_items kept (Some start) (Byte k) = []
start_items kept (Some start) (StartRegister r i) = register_items kept start.registers r i
start_items kept (Some start) (StartSlot r i) = register_items kept start.slot r i
start_items kept (Some start) (StartMemory at) = items_of kept (slice_index start.window (at - WINDOW_START))

abbrev pub point_items : Kept → KeptHeard → At → List Item
point_items kept heard (Byte k) = items_of kept (slice_index heard.numbers k)
point_items kept heard at = start_items kept heard.start at

abbrev pub shown_heard : Kept → KeptHeard → Heard
shown_heard kept heard = record { len = length heard.numbers; founds = is_some heard.start; points = point_items kept heard }

-- the event of this number, among these
abbrev pub heard_among : List KeptHeard → ℕ → Option KeptHeard
heard_among [] event = None
heard_among (heard ∷ more) event = if heard.event == event then Some heard else heard_among more event

-- what is shown of what is kept
abbrev pub shown : Kept → Tracking
shown kept =
    record {
      linkage = kept.linkage;
      members = λ pid. option_map (shown_member kept) (nth kept.members pid);
      heard = λ event. option_map (shown_heard kept) (heard_among kept.heard event);
    }

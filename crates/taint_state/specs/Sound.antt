-- What holds of what is kept.
use Rattle.std.specs.Prelude.{◌≡◌, ℕ, List, [], length, slice_index, Some, None, IfSome}
use Rattle.parts_model.specs.Numbered.{nth}
use Rattle.parts_model.specs.declared.limits.TheConstants.{SEGMENT_LEN, WINDOW_LEN}
use Rattle.taint_spans.specs.Numbered.{IsSet, Numbered, members_of}
use Rattle.taint_pages.specs.Rows.{byte_in}
use Rattle.taint_state.specs.Kept.{Kept, KeptHeard, KeptMember, KeptStart, heard_among}
use Rattle.taint_state.specs.Shown.{IsRegisterByte}

-- all are numbers of sets
abbrev pub AreSets : Numbered → List ℕ → Type 0
AreSets sets numbers = (k : ℕ) → IsSet sets (slice_index numbers k)

-- the bytes of registers have numbers of sets
abbrev pub AreSetsOfRow : Numbered → List ℕ → Type 0
AreSetsOfRow sets row = (r i : ℕ) → IsRegisterByte r i → IsSet sets (byte_in row r i)

-- Each byte of registers, slot and memories has a set. A window is whole, and so is a segment that is held.
pub record IsSoundMember (sets : Numbered) (m : KeptMember) : Type 0 where
  pub registers : AreSetsOfRow sets m.registers
  pub slot : AreSetsOfRow sets m.slot
  pub window : AreSets sets m.window
  pub segment : AreSets sets m.segment
  pub window_whole : length m.window ≡ WINDOW_LEN
  pub segment_whole : (made : ℕ) → m.holds.segment ≡ Some made → length m.segment ≡ SEGMENT_LEN
  pub unheld : m.holds.segment ≡ None → m.segment ≡ []

-- so is what a child began with
pub record IsSoundStart (sets : Numbered) (start : KeptStart) : Type 0 where
  pub registers : AreSetsOfRow sets start.registers
  pub slot : AreSetsOfRow sets start.slot
  pub window : AreSets sets start.window

-- each byte of an event has a set
pub record IsSoundHeard (sets : Numbered) (heard : KeptHeard) : Type 0 where
  pub numbers : AreSets sets heard.numbers
  pub start : IfSome heard.start (IsSoundStart sets)

-- set 0 is the empty one, and all numbers are those of sets
pub record IsSound (x : Kept) : Type 0 where
  pub zero : IsSet x.sets 0
  pub empty : members_of x.sets 0 ≡ []
  pub members : (pid : ℕ) → IfSome (nth x.members pid) (IsSoundMember x.sets)
  pub heard : (event : ℕ) → IfSome (heard_among x.heard event) (IsSoundHeard x.sets)

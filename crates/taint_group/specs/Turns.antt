-- How one member of a group changes by an event.
use Rattle.std.specs.Prelude.{◌≡◌, ℕ, Bool, List, slice_set, Option, None, IfSome, IsSomeAnd, option_map}
use Rattle.arn_base.specs.declared.machine.Cpu.{Cpu}
use Rattle.arn_base.specs.declared.records.Record.{Record}
use Rattle.parts_model.specs.Numbered.{nth}
use Rattle.acts_model.specs.Records.{event_len}
use Rattle.acts_model.specs.Transfers.{Holds, Transfer}
use Rattle.taint_events.specs.Bytes.{AreGiven, IsStatus}
use Rattle.taint_events.specs.Starting.{IsStarted}
use Rattle.taint_members.specs.Access.{Memories, number_at, window_numbers}
use Rattle.taint_members.specs.Rows.{AreZero, ClearsResult, IsSaved}
use Rattle.taint_members.specs.declared.member.MemberSets.{MemberSets}
use Rattle.taint_members.specs.declared.member.NewMember.{NewMember}
use Rattle.taint_members.specs.declared.member.Held.{Held}
use Rattle.std.specs.Global.{Box}
use Rattle.taint_state.specs.declared.heard.ChildStart.{ChildStart}
use Rattle.taint_group.specs.declared.group.Group.{Group}
use Rattle.taint_state.specs.Events.{event_by_member}
use Rattle.taint_group.specs.Groups.{GroupGoes}

-- the memories that a member holds
abbrev pub holds_of : MemberSets → Holds
holds_of m = record { window = m.window.made; segment = option_map (λ (held : Held). held.made) m.segment }

-- a step of a live member by an event of so many bytes, by the memories that it holds
abbrev pub StepsFrom : (Holds → Transfer) → ℕ → ℕ → ℕ → Group → Group → Type 0
StepsFrom transfer pid event count x y =
    (e : Record) (before : Cpu)
    → event_len e ≡ count → IfSome (nth x.members.items pid) (λ (old : MemberSets). GroupGoes (event_by_member pid before (transfer (holds_of old)) event e) x y)

-- what becomes of a member, among the members
pub record ChangesOne (As : MemberSets → Option MemberSets → Type 0) (pid : ℕ) (before after : List (Option MemberSets)) (old : MemberSets) : Type 0 where
  pub new : Option MemberSets
  pub becomes : As old new
  pub members : after ≡ slice_set before pid new

-- and of that of a number, if there is one
abbrev pub ChangesIn : (MemberSets → Option MemberSets → Type 0) → ℕ → List (Option MemberSets) → List (Option MemberSets) → Type 0
ChangesIn As pid before after = IfSome (nth before pid) (ChangesOne As pid before after)

-- and of one that may be there
abbrev pub ChangesEntry : (MemberSets → Option MemberSets → Type 0) → Option MemberSets → Option MemberSets → Type 0
ChangesEntry As before after = IfSome before (λ (old : MemberSets). As old after)

-- it lives no more
abbrev pub Ends : MemberSets → Option MemberSets → Type 0
Ends old new = new ≡ None

-- it lives on as another
abbrev pub LivesAs : (MemberSets → MemberSets → Type 0) → MemberSets → Option MemberSets → Type 0
LivesAs As old new = IsSomeAnd new (As old)

-- the bytes of an exit of a member that may be there
abbrev pub HasStatus : Option MemberSets → ℕ → List ℕ → Type 0
HasStatus entry count numbers = IfSome entry (λ (old : MemberSets). IsStatus old.registers count numbers)

-- the slot keeps the registers
pub record DeliversAs (cut : Bool) (old new : MemberSets) : Type 0 where
  pub saved : IsSaved cut old.registers new.slot
  pub result : ClearsResult old.registers new.registers
  pub others : new ≡ record old { registers = new.registers; slot = new.slot }

-- and gives them back
pub record LeavesAs (old new : MemberSets) : Type 0 where
  pub slot : AreZero new.slot
  pub others : new ≡ record old { registers = old.slot; slot = new.slot }

-- what a child has that starts a group
pub record FoundsFrom (memories : Memories) (old : MemberSets) (start : Box ChildStart) : Type 0 where
  pub result : ClearsResult old.registers start.value.registers
  pub slot : start.value.slot ≡ old.slot
  pub window : start.value.window ≡ window_numbers old memories

-- that of a member that may be there
abbrev pub StartsChild : Memories → Option MemberSets → Option (Box ChildStart) → Type 0
StartsChild memories entry start = IfSome entry (λ (old : MemberSets). IsSomeAnd start (FoundsFrom memories old))

-- it starts anew from an image
pub record StartsAs (memories : Memories) (load : ℕ) (numbers : List ℕ) (block block_len : ℕ) (old : MemberSets) (new : NewMember) : Type 0 where
  pub registers : AreZero new.registers
  pub slot : AreZero new.slot
  pub window : IsStarted load numbers (number_at old memories block) block_len new.window
  pub segment : new.segment ≡ None

-- so does one that may be there
abbrev pub StartsEntry : Memories → ℕ → List ℕ → ℕ → ℕ → Option MemberSets → Option NewMember → Type 0
StartsEntry memories load numbers block block_len entry new = IfSome entry (λ (old : MemberSets). IsSomeAnd new (StartsAs memories load numbers block block_len old))

-- the bytes given by a member that may be there
abbrev pub HasGiven : Option MemberSets → Memories → ℕ → ℕ → List ℕ → Type 0
HasGiven entry memories at count numbers = IfSome entry (λ (m : MemberSets). AreGiven (number_at m memories at) count numbers)

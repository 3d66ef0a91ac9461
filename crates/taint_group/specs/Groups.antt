-- What is kept of a group, as its tables have it.
use Rattle.std.specs.Prelude.{◌≡◌, ℕ, List, slice_set, Option, Some, IfSome}
use Rattle.arn_base.specs.declared.machine.Cpu.{Cpu}
use Rattle.arn_base.specs.declared.records.Record.{Record}
use Rattle.parts_model.specs.Numbered.{nth}
use Rattle.acts_model.specs.Moved.{Inside}
use Rattle.acts_model.specs.Records.{event_len}
use Rattle.acts_model.specs.Transfers.{Transfer}
use Rattle.taint_members.specs.declared.member.MemberSets.{MemberSets}
use Rattle.taint_members.specs.Rows.{ClearsResult}
use Rattle.taint_steps.specs.Table.{Tables}
use Rattle.taint_group.specs.declared.group.Group.{Group}
use Rattle.taint_state.specs.Heard.{heard_in}
use Rattle.taint_state.specs.Events.{event_by_member}
use Rattle.taint_state.specs.EventsShow.{Follows}
use Rattle.taint_state.specs.Kept.{Kept, KeptHeard}
use Rattle.taint_group.specs.Tables.{AreKeyed, AreSoundTables, kept_in}

-- the events of a group, by rising numbers
abbrev pub heard_of : Group → List KeptHeard
heard_of g = heard_in g.heard

abbrev pub tables_of : Group → Tables
tables_of g = record { members = g.members.items; memories = g.memories.items; sets = g.sets }

-- all that is kept of it
abbrev pub kept_of : Group → Kept
kept_of g = kept_in g.linkage (heard_of g) (tables_of g)

-- it keeps what is sound
abbrev pub IsSoundGroup : Group → Type 0
IsSoundGroup g = AreSoundTables g.linkage (heard_of g) (tables_of g)

-- the step goes on in what is kept, and each memory is in the table once
pub record GroupGoes (inside : Inside) (x y : Group) : Type 0 where
  pub follows : Follows inside (kept_of x) (kept_of y)
  pub keyed : AreKeyed (tables_of y)

-- a step of a live member by an event of so many bytes
abbrev pub StepsBy : Transfer → ℕ → ℕ → ℕ → Group → Group → Type 0
StepsBy transfer pid event count x y =
    (e : Record) (before : Cpu) → event_len e ≡ count → IfSome (nth x.members.items pid) (λ (old : MemberSets). GroupGoes (event_by_member pid before transfer event e) x y)

-- what a call that moves no bytes makes of a member
pub record ReturnsAs (old new : MemberSets) : Type 0 where
  pub result : ClearsResult old.registers new.registers
  pub others : new ≡ record old { registers = new.registers }

-- and of the members
pub record ReturnsOne (pid : ℕ) (before after : List (Option MemberSets)) (old : MemberSets) : Type 0 where
  pub new : MemberSets
  pub becomes : ReturnsAs old new
  pub members : after ≡ slice_set before pid (Some new)

abbrev pub ReturnsIn : ℕ → List (Option MemberSets) → List (Option MemberSets) → Type 0
ReturnsIn pid before after = IfSome (nth before pid) (ReturnsOne pid before after)

-- of one that may be there
abbrev pub ReturnsEntry : Option MemberSets → Option MemberSets → Type 0
ReturnsEntry before after = IfSome before (λ (old : MemberSets). (new : MemberSets) × (after ≡ Some new) × ReturnsAs old new)

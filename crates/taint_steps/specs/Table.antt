-- An instruction of a member by its number, in a table of members.
use Rattle.std.specs.Prelude.{◌≡◌, ℕ, List, slice_set, Option, Some, None}
use Rattle.arn_base.specs.declared.machine.Cpu.{Cpu}
use Rattle.rv64_isa.specs.declared.instruction.Instr.{Instr}
use Rattle.taint_members.specs.Access.{HoldsKeys, Memories}
use Rattle.taint_members.specs.declared.member.MemberSets.{MemberSets}
use Rattle.taint_steps.specs.Running.{Runs}
use Rattle.taint_steps.specs.Taking.{AreSetsAt, AreSetsIn}
use Rattle.rv64_model.specs.declared.linkage.Linkage.{Linkage}
use Rattle.taint_spans.specs.Numbered.{Numbered}

-- a member each of whose bytes has a set
pub record IsReady (sets : Numbered) (memories : Memories) (m : MemberSets) : Type 0 where
  pub held : HoldsKeys m memories
  pub registers : AreSetsIn sets m.registers
  pub memory : AreSetsAt sets m memories

-- the members by number, the memories by key, and the sets
pub record Tables : Type 0 where
  pub members : List (Option MemberSets)
  pub memories : Memories
  pub sets : Numbered

-- A member that may be there ran it.
abbrev pub RunsEntry : Option MemberSets → Option MemberSets → Linkage → Instr → Cpu → Memories → Memories → Numbered → Numbered → Type 0
RunsEntry None after linkage instr before memories written old new = (after ≡ None) × (written ≡ memories) × (new ≡ old)
RunsEntry (Some m) after linkage instr before memories written old new = (n : MemberSets) × (after ≡ Some n) × Runs linkage instr before m n memories written old new

-- one member ran it, and the others stay as they were
pub record RunsOne (pid : ℕ) (linkage : Linkage) (instr : Instr) (before : Cpu) (m : MemberSets) (x y : Tables) : Type 0 where
  pub changed : MemberSets
  pub runs : Runs linkage instr before m changed x.memories y.memories x.sets y.sets
  pub members : y.members ≡ slice_set x.members pid (Some changed)

-- where there is no such member nothing is changed
abbrev pub RunsMember : Option MemberSets → ℕ → Linkage → Instr → Cpu → Tables → Tables → Type 0
RunsMember None pid linkage instr before x y = y ≡ x
RunsMember (Some m) pid linkage instr before x y = RunsOne pid linkage instr before m x y

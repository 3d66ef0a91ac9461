-- What an instruction of a member does to what a tracker keeps, and what that shows.
use Rattle.std.specs.Prelude.{◌≡◌, ℕ, Some, option_map}
use Rattle.arn_base.specs.declared.machine.Cpu.{Cpu}
use Rattle.rv64_isa.specs.declared.instruction.Instr.{Instr}
use Rattle.parts_model.specs.Numbered.{nth}
use Rattle.taint_spans.specs.Numbered.{StandAsBefore}
use Rattle.taint_members.specs.Access.{HasTwoKeys, Memories, held_numbers, window_numbers}
use Rattle.taint_members.specs.declared.member.MemberSets.{MemberSets}
use Rattle.taint_members.specs.declared.member.Held.{Held}
use Rattle.taint_steps.specs.Running.{Runs}
use Rattle.taint_state.specs.Events.{PutsSeen}
use Rattle.taint_state.specs.Goes.{TakesInstr}
use Rattle.taint_state.specs.Kept.{Kept, KeptMember, shown}
use Rattle.taint_state.specs.Sound.{IsSound}

-- what is kept of a member, the memories being in a table
abbrev pub kept_member : Memories → MemberSets → KeptMember
kept_member memories m =
    record {
      holds = record { window = m.window.made; segment = option_map (λ (held : Held). held.made) m.segment };
      registers = m.registers;
      slot = m.slot;
      window = window_numbers m memories;
      segment = held_numbers m.segment memories;
    }

-- A member ran an instruction, and all that hold its memories see what it stored there.
pub record RunsIn (pid : ℕ) (instr : Instr) (before : Cpu) (x y : Kept) : Type 0 where
  pub member : MemberSets
  pub changed : MemberSets
  pub memories : Memories
  pub written : Memories
  pub two : HasTwoKeys member
  pub was : nth x.members pid ≡ Some (kept_member memories member)
  pub runs : Runs x.linkage instr before member changed memories written x.sets y.sets
  pub members : PutsSeen pid (kept_member written changed) x.members y.members
  pub stand : StandAsBefore x.sets y.sets
  pub rest : y ≡ record x { sets = y.sets; members = y.members }

-- What is shown goes on by the instruction.
abbrev pub RunsShow : Type 0
RunsShow = (pid : ℕ) (instr : Instr) (before : Cpu) (x y : Kept) → IsSound x → RunsIn pid instr before x y → TakesInstr (shown x) pid instr before (shown y)

-- What is kept stays sound.
abbrev pub RunsKeep : Type 0
RunsKeep = (pid : ℕ) (instr : Instr) (before : Cpu) (x y : Kept) → IsSound x → RunsIn pid instr before x y → IsSound y

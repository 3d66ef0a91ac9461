-- A member whose sets are carried over.
use Rattle.std.specs.Prelude.{◌≡◌}
use Rattle.taint_members.specs.declared.member.MemberSets.{MemberSets}
use Rattle.taint_spans.specs.Carried.{Carried, HaveNumbers}

-- each byte of its registers and its slot has the number that its set has from now on
pub record CarriesMember (sets : Carried) (old new : MemberSets) : Type 0 where
  pub registers : HaveNumbers sets old.registers new.registers
  pub slot : HaveNumbers sets old.slot new.slot
  pub window : new.window ≡ old.window
  pub segment : new.segment ≡ old.segment

use Rattle.taint_group.proofs.Carrying.{MembersTo}
use Rattle.taint_group.proofs.collects.carry_members.Given as goal

abbrev pub invariant-loop-place : goal.invariant-loop-place
invariant-loop-place l = MembersTo l.fn.carrying l.carrying l.fn.members.items l.members.items l.place

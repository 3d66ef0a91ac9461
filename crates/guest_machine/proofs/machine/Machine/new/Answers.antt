use Rattle.std.proofs.Common.{subst, sym}
use Rattle.guest_machine.specs.Recorded.{IsReal}
use Rattle.guest_machine.proofs.RealLemmas.{first-real}
use Rattle.guest_machine.proofs.machine.Machine.new.Goals as goal

pub invariant_of-result : goal.invariant_of-result
invariant_of-result c = subst IsReal (sym c.new.ensures) first-real

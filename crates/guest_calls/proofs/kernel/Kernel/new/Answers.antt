use Rattle.std.proofs.Common.{rules, subst, sym}
use Rattle.guest_bodies.specs.Shown.{Guests}
use Rattle.guest_calls.specs.Kept.{IsPast}
use Rattle.guest_calls.proofs.Past.{past-none}
use Rattle.guest_calls.proofs.kernel.Kernel.new.Goals as goal

pub invariant_of-result : goal.invariant_of-result
invariant_of-result c =
    let past : IsPast c.new.result 0 = subst (λ (g : Guests). IsPast g 0) (sym c.new.ensures) past-none in
    search (rules, past)

use Rattle.std.proofs.Common.{rules, ◌+◌}
use Rattle.guest_calls.specs.Kept.{IsPast}
use Rattle.guest_calls.proofs.Past.{past-more}
use Rattle.guest_calls.proofs.kernel.Kernel.add_file.Goals as goal

pub invariant_of-self : goal.invariant_of-self
invariant_of-self c =
    let past : IsPast c.self.inside.bodies (c.self.inside.events + 1) = past-more c.self.inside.bodies c.self.inside.events c.self.invariant.past in
    search (rules, past)

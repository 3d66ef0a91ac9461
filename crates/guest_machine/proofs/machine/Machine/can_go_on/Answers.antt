use Rattle.std.proofs.Common.{◌≡◌, ℕ, ◌<◌, ◌≤◌, true, subst}
use Rattle.parts_model.specs.declared.limits.TheConstants.{MOST_SLICE}
use Rattle.arn_model.specs.Turn.{is_possible}
use Rattle.guest_machine.specs.Recorded.{OfEach, Recorded}
use Rattle.guest_machine.proofs.SliceLemmas.{possible-all}
use Rattle.guest_machine.proofs.machine.Machine.can_go_on.Goals as goal

pub returns-clause-possible : goal.returns-clause-possible
returns-clause-possible c able =
    subst (λ (r : Recorded). (count : ℕ) → 0 < count → count ≤ MOST_SLICE → OfEach r.kernel (λ m. is_possible m c.args.pid count ≡ true)) c.self.view_is
    (possible-all c.self.inside.kernel c.args.pid c.can_go_on.result c.can_go_on.ensures able)

use Rattle.std.proofs.Common.{ℕ, [], ◌∷◌, Option, sym, subst}
use Rattle.arn_model.specs.Kernel.{all_also_held}
use Rattle.guest_resources.specs.Resources.{Changes}
use Rattle.guest_resources.proofs.resources.Resources.hold_open.Goals as goal

pub returns-in-Ok : goal.returns-in-Ok
returns-in-Ok c = subst (λ (x : Option ℕ). Changes c.args.self.now (all_also_held (x ∷ [])) c.hold_one.new.self) (sym c.in-Some.is) c.in-Ok.ensures.held

use Rattle.std.proofs.Common.{ap, sym, ◌∙◌, set, option_map, Option}
use Rattle.arn_model.specs.Kernel.{Opened, with_what}
use Rattle.guest_resources.proofs.Numbers.{set-none}
use Rattle.guest_resources.proofs.descriptions.Descriptions.change.Goals as goal

pub returns-in_default : goal.returns-in_default
returns-in_default c =
    sym (set-none c.args.self.now c.args.number (sym c.in_default.ensures))
    ∙ ap (λ (o : Option Opened). set c.args.self.now c.args.number (option_map (with_what c.args.what) o)) c.in_default.ensures

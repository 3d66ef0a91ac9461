use Rattle.std.proofs.Common.{◌≡◌, ℕ, Bool, Option, ◌||◌, not, is_some, ap, ap₂, sym, ◌∙◌}
use Rattle.arn_model.specs.Step.{waits}
use Rattle.guest_calls.proofs.Runs.{due-all}
use Rattle.guest_calls.proofs.Stands.{of-tables}
use Rattle.guest_calls.proofs.kernel.Kernel.runnable.Goals as goal

pub returns-in-Some : goal.returns-in-Some
returns-in-Some c m v stands sees =
    ap (λ (d : Option ℕ). is_some d || not (waits m c.args.pid v))
    (sym c.in-Some.is ∙ due-all c.self.inside c.args.self.now c.args.pid c.self.view_is c.self.invariant c.requires.live c.due.result c.due.ensures.due m v stands sees)

pub returns-in-None : goal.returns-in-None
returns-in-None c m v stands sees =
    ap₂ (λ (d : Option ℕ) (w : Bool). is_some d || not w)
    (sym c.in-None.is ∙ due-all c.self.inside c.args.self.now c.args.pid c.self.view_is c.self.invariant c.requires.live c.due.result c.due.ensures.due m v stands sees)
    (of-tables c.args.self.now c.args.pid c.tables.result (λ n w. c.waits.result ≡ waits n c.args.pid w) c.tables.ensures c.waits.ensures m v stands sees)

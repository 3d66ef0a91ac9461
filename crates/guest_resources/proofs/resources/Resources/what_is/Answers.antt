use Rattle.std.proofs.Common.{subst, sym, Option, IfSome}
use Rattle.parts_model.specs.declared.open.Description.{Description}
use Rattle.parts_model.specs.Numbered.{nth}
use Rattle.guest_resources.specs.Resources.{Resources, IsKnown}
use Rattle.guest_resources.proofs.Changed.{known-what}
use Rattle.guest_resources.proofs.Sound.{known-nth}
use Rattle.guest_resources.proofs.resources.Resources.what_is.Goals as goal

pub returns-clause-known : goal.returns-clause-known
returns-clause-known c =
    subst (λ (r : Resources). IfSome c.find.result (IsKnown r.files)) c.self.view_is
    (subst (λ (o : Option Description). IfSome o (IsKnown c.self.inside.files)) (sym c.find.ensures)
    (known-what c.self.inside.files (nth c.self.inside.descriptions c.args.number) (known-nth c.self.inside.files c.self.inside.descriptions c.args.number c.self.invariant.known)))

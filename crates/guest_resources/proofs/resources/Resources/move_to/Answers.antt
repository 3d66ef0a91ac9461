use Rattle.std.proofs.Common.{subst, sym, List, Option, IfSome, IsTrue}
use Rattle.parts_model.specs.Numbered.{nth}
use Rattle.arn_model.specs.Kernel.{Opened}
use Rattle.guest_resources.specs.Resources.{Resources, IsSound, IsIn, is_of}
use Rattle.guest_resources.proofs.Changed.{moved-sound}
use Rattle.guest_resources.proofs.resources.Resources.move_to.Goals as goal

pub invariant_of-self : goal.invariant_of-self
invariant_of-self c =
    subst (λ (ds : List (Option Opened)). IsSound (record { files = c.self.inside.files; descriptions = ds })) (sym c.change.ensures)
    (moved-sound (record { files = c.self.inside.files; descriptions = c.self.inside.descriptions }) c.args.number c.args.file c.args.position c.self.invariant
    (subst (λ (r : Resources). IsIn (nth r.files.all c.args.file) c.args.position) (sym c.self.view_is) c.requires.within)
    (subst (λ (r : Resources). IfSome (nth r.descriptions c.args.number) (λ o. IsTrue (is_of c.args.file o.what))) (sym c.self.view_is) c.requires.is))

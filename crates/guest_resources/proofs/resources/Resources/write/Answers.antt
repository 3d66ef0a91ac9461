use Rattle.std.proofs.Common.{subst, sym, ap, IfSome, IsTrue, ◌+◌, length}
use Rattle.parts_model.specs.Numbered.{nth}
use Rattle.guest_resources.specs.Resources.{Resources, IsIn, is_of}
use Rattle.guest_resources.proofs.Changed.{written-into, fitting-is}
use Rattle.guest_resources.proofs.resources.Resources.write.Goals as goal

pub invariant_of-self : goal.invariant_of-self
invariant_of-self c =
    written-into (record { files = c.self.inside.files; descriptions = c.self.inside.descriptions }) c.args.number c.args.file c.args.at (c.args.at + c.in-Ok.count) c.args.event c.args.bytes.now c.write_at.new.self c.change.new.self c.self.invariant
    (subst (λ (r : Resources). IsIn (nth r.files.all c.args.file) c.args.at) (sym c.self.view_is) c.requires.within)
    c.requires.fits
    (subst (λ (r : Resources). IfSome (nth r.descriptions c.args.number) (λ o. IsTrue (is_of c.args.file o.what))) (sym c.self.view_is) c.requires.is)
    c.in-Ok.ensures.written
    (ap (λ n. c.args.at + n) (fitting-is c.args.at (length c.args.bytes.now) c.in-Ok.count c.requires.fits c.in-Ok.ensures.count))
    c.change.ensures

use Rattle.std.proofs.Common.{ap, sym, ◌∙◌}
use Rattle.parts_model.specs.Files.{next_file}
use Rattle.guest_resources.specs.Resources.{Resources}
use Rattle.guest_resources.proofs.Changed.{made-opened-into}
use Rattle.guest_resources.proofs.resources.Resources.make_file.Goals as goal

pub invariant_of-self-in-Ok : goal.invariant_of-self-in-Ok
invariant_of-self-in-Ok c =
    made-opened-into (record { files = c.self.inside.files; descriptions = c.self.inside.descriptions }) c.args.path.now c.in_ok-file.file c.in-Ok.file c.create.new.self c.hold.new.self c.add.new.self c.self.invariant
    (c.in_ok-file.ensures.number ∙ ap (λ (r : Resources). next_file r.files) (sym c.self.view_is)) c.in-Ok.ensures.number c.in-Ok.ensures.made c.hold.ensures c.in_ok-description.ensures.opened

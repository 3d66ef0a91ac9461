use Rattle.std.proofs.Common.{subst, sym, is_some, true, ◌≡◌}
use Rattle.parts_model.specs.Numbered.{nth}
use Rattle.guest_resources.specs.Resources.{Resources}
use Rattle.guest_resources.proofs.Changed.{few-holders, opened-into}
use Rattle.guest_resources.proofs.resources.Resources.open_file.Goals as goal

pub hold-requires-clause-few : goal.hold-requires-clause-few
hold-requires-clause-few c = few-holders (record { files = c.self.inside.files; descriptions = c.self.inside.descriptions }) c.args.file c.self.invariant c.in_ok-description.ensures.few

pub invariant_of-self-2 : goal.invariant_of-self-2
invariant_of-self-2 c =
    opened-into (record { files = c.self.inside.files; descriptions = c.self.inside.descriptions }) c.args.file c.hold.new.self c.add.new.self c.self.invariant
    (subst (λ (r : Resources). is_some (nth r.files.all c.args.file) ≡ true) (sym c.self.view_is) c.requires) c.hold.ensures c.in_ok-description.ensures.opened

use Rattle.std.proofs.Common.{Some, ap, sym, ◌∙◌, is_some}
use Rattle.std.proofs.lemmas.Map.Text.{btree_map_updates_str}
use Rattle.guest_asm.specs.Kept.{address_in}
use Rattle.guest_asm.proofs.Naming.{defined_first, defined_again}
use Rattle.guest_asm.proofs.labels.Labels.add.Goals as goal

pub returns-in_ok-insert : goal.returns-in_ok-insert
returns-in_ok-insert c = λ named so_far.
    defined_first named (record { name = c.args.name.now; number = c.args.address }) (address_in c.args.self.now) (address_in (record { places = c.insert.new.self })) so_far
    (ap is_some (sym c.get.ensures) ∙ c.if-is_none.ensures)
    (btree_map_updates_str c.args.name.now c.args.self.now.places c.insert.new.self (Some c.args.address) c.in_ok-insert.ensures.updates)

pub returns-else-is_none : goal.returns-else-is_none
returns-else-is_none c = λ named so_far.
    defined_again named (record { name = c.args.name.now; number = c.args.address }) (address_in c.args.self.now) so_far
    (ap is_some (sym c.get.ensures) ∙ c.if-is_none.ensures)

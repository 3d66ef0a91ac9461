use Rattle.std.proofs.Common.{◌+◌, ◌-◌, refl}
use Rattle.set_store.specs.declared.item.Item.{Item}
use Rattle.set_store.specs.Tries.{items_of}
use Rattle.set_store.proofs.Near.{near-more}
use Rattle.set_store.proofs.node.+neighbours.Goals as goal

pub returns-clause-members : goal.returns-clause-members
returns-clause-members t c =
    let last : Item = record { event = c.args.first.event; at = c.args.first.at + (c.args.len - 1) } in
    near-more c.args.first last c.args.len (items_of c.with.result) (items_of c.neighbours.result) c.requires.some refl refl c.with.ensures.members c.neighbours.ensures.members

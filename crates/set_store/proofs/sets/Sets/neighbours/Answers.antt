use Rattle.set_store.specs.Sets.{members_of}
use Rattle.set_store.specs.Tries.{items_of}
use Rattle.set_store.proofs.Near.{kept-near}
use Rattle.set_store.proofs.sets.Sets.neighbours.Goals as goal

pub returns-clause-members : goal.returns-clause-members
returns-clause-members c = kept-near c.kept.result (members_of c.kept.new.self) (items_of c.neighbours.result) c.args.first c.args.len c.neighbours.ensures.members c.kept.ensures.members

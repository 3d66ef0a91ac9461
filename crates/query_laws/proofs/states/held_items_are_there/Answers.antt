use Rattle.query_laws.proofs.Held.{held-there}
use Rattle.query_laws.proofs.states.held_items_are_there.Goals as goal

pub returns : goal.returns
returns c = held-there c.follows_holders.ensures c.acts_have_len.ensures

use Rattle.query_laws.proofs.Received.{received-items}
use Rattle.query_laws.proofs.law.items_are_received.Goals as goal

pub returns : goal.returns
returns c = received-items c.follows_holders.ensures c.acts_have_len.ensures

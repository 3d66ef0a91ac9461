use Rattle.query_laws.proofs.Held.{held-bytes}
use Rattle.query_laws.proofs.states.held_is_of_bytes.Goals as goal

pub returns : goal.returns
returns c = held-bytes c.follows_holders.ensures c.acts_have_len.ensures

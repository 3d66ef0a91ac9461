use Rattle.query_laws.proofs.Among.{among}
use Rattle.query_laws.proofs.forth.reaching_is_among.Goals as goal

pub returns : goal.returns
returns c = among c.follows_holders.ensures c.acts_have_len.ensures c.reach_same.ensures

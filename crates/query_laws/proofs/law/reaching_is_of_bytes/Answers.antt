use Rattle.query_laws.proofs.Fitting.{reaching-bytes}
use Rattle.query_laws.proofs.law.reaching_is_of_bytes.Goals as goal

pub returns : goal.returns
returns c = reaching-bytes c.follows_holders.ensures c.acts_have_len.ensures

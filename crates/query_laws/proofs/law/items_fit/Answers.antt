use Rattle.query_laws.proofs.Fitting.{fit}
use Rattle.query_laws.proofs.law.items_fit.Goals as goal

pub returns : goal.returns
returns c = fit c.follows_holders.ensures c.acts_have_len.ensures

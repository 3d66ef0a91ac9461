use Rattle.query_laws.proofs.Lost.{lost-none}
use Rattle.query_laws.proofs.forth.forth_loses_nothing.Goals as goal

pub returns : goal.returns
returns c = lost-none c.items_are_received.ensures c.pairs_are_told.ensures

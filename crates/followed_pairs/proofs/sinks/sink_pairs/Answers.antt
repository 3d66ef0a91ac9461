use Rattle.followed_pairs.proofs.Pairs.{ok-map}
use Rattle.followed_pairs.proofs.sinks.sink_pairs.Goals as goal

pub returns-clause-members : goal.returns-clause-members
returns-clause-members c =
    ok-map c.pairs.result
    (λ pairs same pair. (
      λ has. (c.in_ok-found.ensures pair).0 ((same pair).0 has),
      λ is. (same pair).1 ((c.in_ok-found.ensures pair).1 is),
    ))
    c.pairs.ensures.members

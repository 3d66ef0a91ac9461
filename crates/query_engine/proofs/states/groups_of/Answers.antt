use Rattle.std.proofs.Common.{sym}
use Rattle.query_engine.proofs.HeldAnswered.{groups-are}
use Rattle.query_engine.proofs.Same.{ok-map}
use Rattle.query_engine.proofs.states.groups_of.Goals as goal

pub returns-clause-ok : goal.returns-clause-ok
returns-clause-ok c =
    ok-map c.behind.result
    (groups-are c.args.entries.now c.args.pid c.laws.ensures.one c.requires.indexed.stands c.group_of.result (sym (c.group_of.ensures c.args.entries.now c.requires.indexed)))
    (c.behind.ensures c.args.entries.now c.in_ok-graph.ensures.ok)

pub returns-clause-rises : goal.returns-clause-rises
returns-clause-rises c = ok-map c.behind.result (λ groups lists. lists.rises) (c.behind.ensures c.args.entries.now c.in_ok-graph.ensures.ok)

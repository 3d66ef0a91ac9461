use Rattle.std.proofs.Common.{◌∙◌}
use Rattle.query_engine.proofs.Same.{ok-map}
use Rattle.query_engine.proofs.Writers.{groups-are}
use Rattle.query_engine.proofs.names.groups_of.Goals as goal

pub returns-clause-ok : goal.returns-clause-ok
returns-clause-ok c =
    ok-map c.back.result
    (groups-are c.args.entries.now c.args.bytes.now c.laws.ensures.one c.requires.indexed.stands c.as_slice.result.now (c.as_slice.ensures.value ∙ c.in_ok-writers.ensures))
    (c.back.ensures.ok c.args.entries.now c.in_ok-graph.ensures.ok)

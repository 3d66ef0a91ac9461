use Rattle.query_model.specs.Answers.{moment_of}
use Rattle.query_engine.proofs.Answered.{answered}
use Rattle.query_engine.proofs.Fit.{fit}
use Rattle.query_engine.proofs.Same.{ok-map}
use Rattle.query_engine.proofs.engine.pairs.Goals as goal

pub event_pairs-requires-clause-fit : goal.event_pairs-requires-clause-fit
event_pairs-requires-clause-fit c =
    fit c.args.entries.now c.args.linkage (moment_of c.args.entries.now c.args.event) c.args.followed.now c.requires.of c.items_are_of_groups.ensures c.laws.ensures.fit c.requires.indexed.stands c.blocks_are_whole.ensures

pub returns : goal.returns
returns c =
    ok-map c.event_pairs.result
    (answered c.laws.ensures c.items_are_of_groups.ensures c.args.entries.now c.requires.indexed.stands c.blocks_are_whole.ensures c.args.linkage c.args.event c.args.from c.args.len c.requires.range c.args.followed.now c.requires.of c.requires.has)
    c.event_pairs.ensures

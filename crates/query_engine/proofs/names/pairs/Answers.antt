use Rattle.query_engine.proofs.Fit.{fit}
use Rattle.query_engine.proofs.Same.{ok-map}
use Rattle.query_engine.proofs.Written.{answered}
use Rattle.query_engine.proofs.names.pairs.Goals as goal

pub written_pairs-requires-clause-fit : goal.written_pairs-requires-clause-fit
written_pairs-requires-clause-fit c =
    fit c.args.entries.now c.args.linkage c.args._moment c.args.followed.now c.requires.of c.items_are_of_groups.ensures c.laws.ensures.fit c.requires.indexed.stands c.blocks_are_whole.ensures

pub returns : goal.returns
returns c =
    ok-map c.written_pairs.result
    (answered c.args.entries.now c.args.linkage c.args._moment c.args.followed.now c.args.bytes.now c.requires.of c.laws_of_names.ensures c.items_are_of_groups.ensures
    c.requires.indexed.stands c.blocks_are_whole.ensures c.requires.written c.requires.has)
    c.written_pairs.ensures

use Rattle.query_engine.proofs.Fit.{fit}
use Rattle.query_engine.proofs.HeldAnswered.{answered, own, own-of, there}
use Rattle.query_engine.proofs.Same.{ok-map}
use Rattle.query_engine.proofs.states.pairs.Goals as goal

pub held_pairs-requires-clause-of : goal.held_pairs-requires-clause-of
held_pairs-requires-clause-of c =
    own-of c.args.entries.now c.args.linkage c.args.followed.now c.args.held c.requires.of c.requires.indexed.stands c.blocks_are_whole.ensures c.requires.has

pub held_pairs-requires-clause-own : goal.held_pairs-requires-clause-own
held_pairs-requires-clause-own c =
    own c.args.entries.now c.args.linkage c.args.followed.now c.args.held c.requires.of c.requires.indexed.stands c.blocks_are_whole.ensures c.requires.has c.items_are_of_groups.ensures c.laws.ensures.connected

pub held_pairs-requires-clause-items : goal.held_pairs-requires-clause-items
held_pairs-requires-clause-items c =
    there c.args.entries.now c.args.linkage c.args.followed.now c.args.held c.requires.of c.requires.indexed.stands c.blocks_are_whole.ensures c.requires.has c.laws_of_states.ensures

pub held_pairs-requires-clause-fit : goal.held_pairs-requires-clause-fit
held_pairs-requires-clause-fit c =
    fit c.args.entries.now c.args.linkage c.args.held.moment c.args.followed.now c.requires.of c.items_are_of_groups.ensures c.laws.ensures.fit c.requires.indexed.stands c.blocks_are_whole.ensures

pub returns : goal.returns
returns c =
    ok-map c.held_pairs.result
    (answered c.args.entries.now c.args.linkage c.args.followed.now c.args.held c.requires.of c.requires.indexed.stands c.blocks_are_whole.ensures c.requires.has
    c.items_are_of_groups.ensures c.laws_of_states.ensures c.requires.there)
    c.held_pairs.ensures

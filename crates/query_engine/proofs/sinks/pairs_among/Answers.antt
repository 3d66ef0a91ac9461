use Rattle.history_model.specs.Moments.{total}
use Rattle.followed_groups.specs.Following.{items_followed}
use Rattle.query_engine.proofs.Fit.{fit}
use Rattle.query_engine.proofs.Outward.{all-pairs, followed-among}
use Rattle.query_engine.proofs.Same.{ok-both}
use Rattle.query_engine.proofs.sinks.pairs_among.Goals as goal

pub sink_pairs-requires-clause-fit : goal.sink_pairs-requires-clause-fit
sink_pairs-requires-clause-fit c =
    fit c.args.entries.now c.args.linkage (total c.args.entries.now) c.args.followed.now c.requires.of c.items_are_of_groups.ensures c.laws.ensures.fit c.requires.indexed.stands c.blocks_are_whole.ensures

pub returns : goal.returns
returns c =
    let entries = c.args.entries.now in
    let among = followed-among entries c.args.linkage (total entries) c.args.followed.now c.args.groups.now c.items_are_of_groups.ensures c.requires.of c.requires.has c.requires.only in
    ok-both c.sink_pairs.result
    (all-pairs entries c.args.groups.now c.args.asked c.args.linkage (items_followed c.args.followed.now) c.laws_forth.ensures.sinks
    (c.laws_forth.ensures.among c.args.linkage entries c.args.groups.now (total entries) (items_followed c.args.followed.now) c.requires.indexed.stands c.blocks_are_whole.ensures among)
    c.pairs_are_one.ensures)
    c.sink_pairs.ensures.members c.sink_pairs.ensures.rising

use Rattle.std.proofs.Common.{◌∙◌}
use Rattle.followed_pairs.proofs.HeldTold.{held-told}
use Rattle.followed_pairs.proofs.Pairs.{ok-both}
use Rattle.followed_pairs.proofs.states.held_pairs.Goals as goal

pub returns : goal.returns
returns c =
    ok-both c.join.result
    (held-told c.args.entries.now c.args.followed.now c.args.held c.requires.of c.pairs_are_one.ensures c.numbers_stand.ensures c.are_followed.ensures c.requires.there c.requires.own c.requires.items
    c.as_slice.result.now (c.as_slice.ensures.value ∙ c.in_ok-demands.ensures))
    c.join.ensures.asked c.join.ensures.rising

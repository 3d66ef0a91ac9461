use Rattle.std.proofs.Common.{filter, is_some, ap, ◌∙◌}
use Rattle.parts_model.specs.Numbered.{nth}
use Rattle.replayer.proofs.Living.{members-live}
use Rattle.replayer.proofs.state.replay.Goals as goal

pub invariant_of-result : goal.invariant_of-result
invariant_of-result g c =
    let lives = c.in_ok-bodies.ensures.lives in
    c.in_ok-live.ensures
    ∙ (ap (filter (λ p. is_some (nth c.in_ok-bodies.bodies p))) (c.members.ensures c.args.entries.now c.requires.indexed)
    ∙ members-live c.args.entries.now c.args.group lives.0 c.in_ok-bodies.bodies c.requires.indexed.stands lives.1)

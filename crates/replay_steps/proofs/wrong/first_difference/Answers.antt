use Rattle.std.proofs.Common.{ap, sym, ◌∙◌, option_map}
use Rattle.std.proofs.lemmas.Bool.{ltb-false}
use Rattle.replay_steps.specs.Calls.{wrong_as}
use Rattle.replay_steps.proofs.Wrongs.{difference-past}
use Rattle.replay_steps.proofs.wrong.first_difference.Goals as goal

pub returns-in_err-other : goal.returns-in_err-other
returns-in_err-other c =
    ap (option_map wrong_as) c.from_residual.ensures
    ∙ difference-past c.args.said.now c.args.found.now c.loop-place.place (ltb-false _ _ (sym c.in_err-other.ensures.lookup.0)) c.loop-place.invariant

use Rattle.std.proofs.Common.{[], arith}
use Rattle.std.proofs.lemmas.List.Elements.{All-cons}
use Rattle.guest_bodies.specs.Shown.{IsLive}
use Rattle.replay_tests.proofs.states.state_of_one.Goals as goal

pub state_of-requires : goal.state_of-requires
state_of-requires c =
    record { live = All-cons (IsLive c.args.kernel.now.guests) 1 [] c.requires (λ k d h. absurd (omega arith)) }

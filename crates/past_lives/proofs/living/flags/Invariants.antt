use Rattle.past_lives.proofs.Flags.{Flags}
use Rattle.past_lives.proofs.living.flags.Given as goal

abbrev pub invariant-loop-event : goal.invariant-loop-event
invariant-loop-event l = Flags l.entries l.moment l.flags.items l.event

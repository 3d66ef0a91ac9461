use Rattle.std.proofs.Common.{◌≡◌, drop}
use Rattle.history_model.specs.Broken.{greatest, greatest_from}
use Rattle.past_lives.proofs.living.greatest.Given as goal

abbrev pub invariant-loop-entry : goal.invariant-loop-entry
invariant-loop-entry l = greatest_from l.greatest (drop l.entry-index l.entries) ≡ greatest l.entries

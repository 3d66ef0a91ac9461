use Rattle.std.proofs.Common.{◌≡◌, [], ◌∷◌, Some, None, IsSome, refl}
use Rattle.parts_model.specs.Processes.{Process, Processes, process, with_change, placed}
use Rattle.parts_tests.proofs.processes.there_are_at_most_16_descriptors.Goals as goal

first-there : (all new : Processes) (change : Process → Process) → IsSome (process all 1) → new ≡ with_change all 1 change → IsSome (process new 1)
first-there [] new change some is = cc
first-there (None ∷ all) new change some is = cc
first-there (Some p ∷ all) new change some is = rw is refl

pub loop-count-preserved : goal.loop-count-preserved
loop-count-preserved g c = first-there _ _ (placed 7) c.loop-count.invariant c.in_ok-number.ensures.ok

use Rattle.std.proofs.Common.{drop}
use Rattle.history_index.specs.Lookups.{slices_of}
use Rattle.replayer.proofs.Walking.{Walks}
use Rattle.replayer.proofs.walk.replay_slices.Given as goal

abbrev pub invariant-loop-at : goal.invariant-loop-at
invariant-loop-at g l =
    Walks (record { begins = g.O.Observer.begins; runs = g.O.Observer.runs; hears = g.O.Observer.hears }) l.initial.observer l.initial.steps l.entries l.group l.until (drop l.at-index (slices_of l.entries l.group)) l.bodies l.observer l.steps

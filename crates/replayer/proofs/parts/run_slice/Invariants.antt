use Rattle.std.proofs.Common.{◌+◌}
use Rattle.replayer.specs.Parts.{part_of}
use Rattle.replayer.proofs.Running.{InPart}
use Rattle.replayer.proofs.parts.run_slice.Given as goal

abbrev pub invariant-loop-place : goal.invariant-loop-place
invariant-loop-place g l =
    InPart (record { begins = g.O.Observer.begins; runs = g.O.Observer.runs; hears = g.O.Observer.hears }) l.initial.observer l.initial.steps l.entries l.initial.bodies (part_of l.until l.at) (l.at.place + 1) l.place l.part l.bodies l.observer l.steps

use Rattle.taint_tracker.proofs.Following.{not-lost}
use Rattle.taint_tracker.proofs.tracker.TrackerObserver.instruction.Goals as goal

pub returns-clause-fails : goal.returns-clause-fails
returns-clause-fails c = λ lost. absurd (not-lost c.self.inside.lost c.self.inside.group c.args.self.now c.if-self.false c.self.invariant c.self.view_is lost)

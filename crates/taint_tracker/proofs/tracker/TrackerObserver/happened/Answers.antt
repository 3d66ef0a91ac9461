use Rattle.std.proofs.Common.{subst}
use Rattle.taint_state.specs.Goes.{TakesEvent}
use Rattle.taint_group.specs.Groups.{kept_of}
use Rattle.taint_state.specs.Kept.{Kept, shown}
use Rattle.taint_tracker.proofs.Following.{kept-now, not-lost}
use Rattle.taint_tracker.proofs.tracker.TrackerObserver.happened.Goals as goal

pub returns-clause-takes : goal.returns-clause-takes
returns-clause-takes c =
    subst (λ (k : Kept). TakesEvent (shown k) c.args.event c.args.entry.now c.args.before.now (shown (kept_of c.happened.new.self))) (kept-now c.self.inside.lost c.self.inside.group c.args.self.now c.if-self.false c.self.view_is) c.in_ok-happened.ensures.takes

pub returns-clause-fails : goal.returns-clause-fails
returns-clause-fails c = λ lost. absurd (not-lost c.self.inside.lost c.self.inside.group c.args.self.now c.if-self.false c.self.invariant c.self.view_is lost)

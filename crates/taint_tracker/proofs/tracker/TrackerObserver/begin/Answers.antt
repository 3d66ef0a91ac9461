use Rattle.std.proofs.Common.{◌≡◌, ◌∙◌, ℕ, false, Option, Some, None, is_some, sym, subst}
use Rattle.taint_state.specs.Goes.{TakesBegin}
use Rattle.taint_group.specs.Groups.{kept_of}
use Rattle.taint_state.specs.Kept.{Kept, shown}
use Rattle.taint_tracker.proofs.Following.{kept-now, not-lost}
use Rattle.taint_tracker.proofs.tracker.TrackerObserver.begin.Goals as goal

none-of : (o : Option ℕ) → is_some o ≡ false → None ≡ o
none-of None e = cc
none-of (Some p) e = absurd (cc)

pub returns-clause-takes : goal.returns-clause-takes
returns-clause-takes c =
    subst (λ (o : Option ℕ). TakesBegin (shown c.args.self.now) c.args.pid c.args.event o (shown (kept_of c.begin.new.self))) (none-of c.args.parent (sym c.is_some.ensures ∙ c.if-is_some.false))
    (subst (λ (k : Kept). TakesBegin (shown k) c.args.pid c.args.event None (shown (kept_of c.begin.new.self))) (kept-now c.self.inside.lost c.self.inside.group c.args.self.now c.if-self.false c.self.view_is) c.in_ok-begin.ensures.begins)

pub returns-clause-fails : goal.returns-clause-fails
returns-clause-fails c = λ lost. absurd (not-lost c.self.inside.lost c.self.inside.group c.args.self.now c.if-self.false c.self.invariant c.self.view_is lost)

pub returns-then-is_some-clause-fails : goal.returns-then-is_some-clause-fails
returns-then-is_some-clause-fails c = λ lost. absurd (not-lost c.self.inside.lost c.self.inside.group c.args.self.now c.if-self.false c.self.invariant c.self.view_is lost)

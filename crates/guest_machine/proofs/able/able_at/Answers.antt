use Rattle.std.proofs.Common.{rules, ◌≡◌, ◌<◌, ℕ, length, slice_index_or, refl, subst}
use Rattle.arn_model.specs.Turn.{is_runnable}
use Rattle.guest_machine.specs.Recorded.{OfEach}
use Rattle.guest_machine.proofs.AbleLemmas.{Passed, found, not-found}
use Rattle.guest_machine.proofs.able.able_at.Goals as goal

pub returns-then-before-place : goal.returns-then-before-place
returns-then-before-place c =
    let xs = c.live-pids.result.now in
    let within : c.loop-pid.pid-index < length xs = search rules in
    let at : c.loop-pid.before ≡ c.args.place = search rules in
    found c.args.kernel.now xs c.loop-pid.pid-index (slice_index_or xs c.loop-pid.pid-index 0) c.loop-pid.before c.args.place c.can_go_on.result within refl c.can_go_on.ensures c.if-can_go_on.true c.loop-pid.invariant.passed c.live-pids.ensures at

pub returns : goal.returns
returns c =
    let xs = c.live-pids.result.now in
    let end : c.loop-pid.pid-index ≡ length xs = search rules in
    not-found c.args.kernel.now xs c.loop-pid.before c.args.place c.live-pids.ensures (subst (λ (n : ℕ). OfEach c.args.kernel.now (λ m. Passed (is_runnable m) xs n c.loop-pid.before)) end c.loop-pid.invariant.passed) c.loop-pid.invariant.within

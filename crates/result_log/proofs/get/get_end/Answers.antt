use Rattle.std.proofs.Common.{◌≡◌, ℕ, ◌<◌, List, ◌++◌, length, ap, arith}
use Rattle.schedule_log.specs.Fields.{field}
use Rattle.result_log.proofs.Starting.{no-end}
use Rattle.result_log.proofs.get.get_end.Goals as goal

pub returns-in_err-pid : goal.returns-in_err-pid
returns-in_err-pid c =
    let few = c.in_err-pid.ensures.none in
    rw c.from_residual.ensures (no-end c.args.bytes.now (omega arith))

-- the process alone stands there
too-few : (bytes behind : List ℕ) (pid : ℕ) → bytes ≡ field 4 pid ++ behind → length behind < 1 → length bytes < 5
too-few bytes behind pid e few =
    let long : length bytes ≡ length (field 4 pid ++ behind) = ap (λ (xs : List ℕ). length xs) e in
    omega (arith, long, few)

pub returns-in_err-status : goal.returns-in_err-status
returns-in_err-status c =
    rw c.from_residual-in_err-status.ensures
    (no-end c.args.bytes.now (too-few c.args.bytes.now c.in_ok-pid.behind.now c.in_ok-pid.pid c.in_ok-pid.ensures.some c.in_err-status.ensures.none))

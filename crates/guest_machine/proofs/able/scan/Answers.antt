use Rattle.std.proofs.Common.{rules, ◌+◌, ◌<◌, length, slice_index_or, refl}
use Rattle.guest_machine.proofs.AbleLemmas.{IsScanned, scanned-none, scanned-some}
use Rattle.guest_machine.proofs.able.scan.Goals as goal
use Rattle.guest_machine.proofs.able.scan.Goals.{then-can_go_on, else-can_go_on}

pub loop-pid-preserved : goal.loop-pid-preserved
loop-pid-preserved c =
    let xs = c.live-pids.result.now in
    let i = c.loop-pid.pid-index in
    let first = c.loop-pid.first.items in
    let within : i < length xs = search rules in
    let so_far : IsScanned c.args.kernel.now xs i c.loop-pid.count first = record { passed = c.loop-pid.invariant.passed; kept = c.loop-pid.invariant.kept; few = c.loop-pid.invariant.few } in
    let next : IsScanned c.args.kernel.now xs (i + 1) c.if-can_go_on.count c.if-can_go_on.first.items =
    elim c.if-can_go_on.branch [
      | then-can_go_on w ↦ scanned-some c.args.kernel.now xs i c.loop-pid.count (slice_index_or xs i 0) c.can_go_on.result first within refl c.can_go_on.ensures so_far w.if-can_go_on.true _ _ w.count-is (cc (w.first-is, w.keep.ensures))
      | else-can_go_on w ↦ scanned-none c.args.kernel.now xs i c.loop-pid.count (slice_index_or xs i 0) c.can_go_on.result first within refl c.can_go_on.ensures so_far w.if-can_go_on.false _ _ w.count-is (cc w.first-is)
    ] in
    record { passed = next.passed; kept = next.kept; few = next.few }

use Rattle.std.proofs.Common.{◌≡◌, drop}
use Rattle.parts_model.specs.Processes.{orphan}
use Rattle.guest_procs.specs.Sound.{visited}
use Rattle.guest_procs.proofs.table.Table.orphan_all.Given as goal

abbrev pub invariant-loop-pid : goal.invariant-loop-pid
invariant-loop-pid l =
    visited (orphan l.parent) l.self (drop l.pid-index l.pids) ≡ visited (orphan l.parent) l.initial.self l.pids

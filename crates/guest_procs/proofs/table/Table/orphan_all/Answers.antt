use Rattle.std.proofs.Common.{◌≤◌, length, arith, ap, ◌∙◌}
use Rattle.std.proofs.lemmas.List.{drop_all}
use Rattle.parts_model.specs.Processes.{orphan}
use Rattle.guest_procs.specs.Sound.{visited}
use Rattle.guest_procs.proofs.Tables.{visited-present}
use Rattle.guest_procs.proofs.table.Table.orphan_all.Goals as goal

pub returns : goal.returns
returns c =
    let past : length c.args.pids.now ≤ c.loop-pid.pid-index = omega arith in
    let done = rw (drop_all c.loop-pid.pid-index c.args.pids.now past) at c.loop-pid.invariant in
    done ∙ ap (visited (orphan c.args.parent) c.args.self.now) c.requires ∙ visited-present (orphan c.args.parent) c.args.self.now

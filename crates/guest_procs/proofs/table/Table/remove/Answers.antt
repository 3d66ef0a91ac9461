use Rattle.std.proofs.Common.{sym}
use Rattle.parts_model.specs.Processes.{process}
use Rattle.guest_procs.proofs.Tables.{with_process-none, not_present}
use Rattle.guest_procs.proofs.table.Table.remove.Goals as goal

pub returns-else-is_there : goal.returns-else-is_there
returns-else-is_there c =
    sym (with_process-none c.args.self.now c.args.pid (not_present (process c.args.self.now c.args.pid) (sym c.if-is_there.ensures)))

use Rattle.std.proofs.Common.{sym}
use Rattle.guest_procs.proofs.Tables.{with_process-none}
use Rattle.guest_procs.proofs.table.Table.set_descriptor.Goals as goal

pub returns-in_default : goal.returns-in_default
returns-in_default c =
    let none = sym c.in_default.ensures in
    rw none (sym (with_process-none c.args.self.now c.args.pid none))

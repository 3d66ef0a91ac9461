use Rattle.std.proofs.Common.{length, ap, arith}
use Rattle.parts_model.specs.Pipes.{Pipe}
use Rattle.guest_pipes.proofs.Queues.{length-queue}
use Rattle.guest_pipes.proofs.pipe.Pipe.len.Goals as goal

pub returns-clause-count : goal.returns-clause-count
returns-clause-count c =
    let queued = length-queue c.self.inside.taken c.self.inside.head c.self.inside.gone c.self.inside.held.items c.self.inside.runs.items c.self.invariant in
    omega (arith, queued, ap (λ (p : Pipe). length p.channel.queue) c.self.view_is, c.len.ensures)

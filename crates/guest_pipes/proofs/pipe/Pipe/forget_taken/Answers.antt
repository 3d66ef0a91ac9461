use Rattle.std.proofs.Common.{◌∙◌, length, ap, sym}
use Rattle.parts_model.specs.Pipes.{Pipe}
use Rattle.guest_pipes.proofs.Queues.{cleared, length-queue}
use Rattle.guest_pipes.proofs.pipe.Pipe.forget_taken.Goals as goal

pub invariant_of-self : goal.invariant_of-self
invariant_of-self c =
    let queued = length-queue c.self.inside.taken c.self.inside.head c.self.inside.gone c.self.inside.held.items c.self.inside.runs.items c.self.invariant in
    let none = sym queued ∙ ap (λ (p : Pipe). length p.channel.queue) c.self.view_is ∙ sym c.len.ensures.count ∙ c.if-len-eq0.true in
    cleared _ _ _ _ _ _ c.self.invariant none (ap length c.clear.ensures.items)

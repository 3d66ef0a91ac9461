use Rattle.std.proofs.Common.{sym, ◌∙◌}
use Rattle.guest_pipes.proofs.Changes.{found-there}
use Rattle.guest_pipes.proofs.pipes.Pipes.is_there.Goals as goal

pub returns : goal.returns
returns c =
    let same = c.is_some.ensures ∙ found-there c.args.self.now c.self.inside.table c.self.inside.made c.args.pipe c.self.view_is c.self.invariant c.find_key.result c.find_key.ensures.found c.find_key.ensures.absent in
    (λ is. sym same ∙ is, λ there. same ∙ there)

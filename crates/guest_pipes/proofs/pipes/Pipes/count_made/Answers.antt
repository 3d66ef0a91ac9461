use Rattle.std.proofs.Common.{length, sym, ap, ◌∙◌}
use Rattle.guest_pipes.proofs.Changes.{length-listed}
use Rattle.guest_pipes.proofs.pipes.Pipes.count_made.Goals as goal

pub returns : goal.returns
returns c = sym (length-listed c.self.inside.table.slots c.self.inside.made) ∙ ap length c.self.view_is

use Rattle.std.proofs.Common.{Some, ap, ◌∙◌, List, Option}
use Rattle.guest_mem.specs.Pages.{Paged}
use Rattle.guest_bodies.proofs.Keyed.{tabled, windows-set}
use Rattle.guest_bodies.proofs.memories.Memories.put_window.Goals as goal

pub returns : goal.returns
returns c =
    ap (λ (w : List (Option Paged)). tabled w c.self.inside.segments) c.put.ensures
    ∙ windows-set c.self.inside.windows c.self.inside.segments c.args.self.now c.self.view_is c.args.key (Some c.args.space)

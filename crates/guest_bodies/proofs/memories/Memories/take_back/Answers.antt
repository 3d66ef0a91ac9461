use Rattle.std.proofs.Common.{Some, ap₂, ◌∙◌, List, Option}
use Rattle.guest_bodies.specs.Tables.{Table}
use Rattle.guest_mem.specs.Pages.{Paged}
use Rattle.guest_bodies.proofs.Keyed.{both-set, tabled}
use Rattle.guest_bodies.proofs.memories.Memories.take_back.Goals as goal

pub returns : goal.returns
returns c =
    ap₂ (λ (w : List (Option Paged)) (s : Table). tabled w s) c.put.ensures c.put-2.ensures
    ∙ both-set c.self.inside.windows c.self.inside.segments c.args.self.now c.self.view_is c.args.window.key c.args.segment.key (Some c.args.memory.space) (Some c.args.memory.segment)

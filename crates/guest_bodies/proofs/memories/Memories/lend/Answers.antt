use Rattle.std.proofs.Common.{None, ap₂, ◌∙◌, List, Option}
use Rattle.guest_bodies.specs.Tables.{Table}
use Rattle.guest_mem.specs.Pages.{Paged}
use Rattle.guest_bodies.proofs.Keyed.{both-set, tabled}
use Rattle.guest_bodies.proofs.memories.Memories.lend.Goals as goal

pub returns-clause-tables : goal.returns-clause-tables
returns-clause-tables c =
    ap₂ (λ (w : List (Option Paged)) (s : Table). tabled w s) c.take_at.ensures.rest c.take_at-2.ensures.rest
    ∙ both-set c.self.inside.windows c.self.inside.segments c.args.self.now c.self.view_is c.args.window.key c.args.segment.key None None

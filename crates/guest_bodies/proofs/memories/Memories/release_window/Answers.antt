use Rattle.std.proofs.Common.{Bool, None, ap, cond, set, sym, ◌∙◌, List, Option}
use Rattle.guest_mem.specs.Pages.{Paged}
use Rattle.guest_bodies.proofs.Keyed.{tabled, windows-set}
use Rattle.guest_bodies.proofs.memories.Memories.release_window.Goals as goal

pub returns-then-not-is_window_held : goal.returns-then-not-is_window_held
returns-then-not-is_window_held c =
    ap (λ (w : List (Option Paged)). tabled w c.self.inside.segments) c.remove.ensures
    ∙ (windows-set c.self.inside.windows c.self.inside.segments c.args.self.now c.self.view_is c.args.window.key None
    ∙ ap (λ (b : Bool). record c.args.self.now { windows = cond b c.args.self.now.windows (set c.args.self.now.windows c.args.window.key None) }) (sym (sym c.is_window_held.ensures ∙ c.if-not-is_window_held.true)))

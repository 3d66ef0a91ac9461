use Rattle.std.proofs.Common.{List, ℕ, ap, ◌∙◌}
use Rattle.parts_model.specs.Blocks.{with_blocks}
use Rattle.guest_bodies.proofs.windows.window_of.Goals as goal

pub returns : goal.returns
returns c = c.in_ok-lay_all.ensures ∙ ap (λ (bytes : List ℕ). with_blocks c.args.blocks.now bytes) c.in_ok-space.ensures.zeros

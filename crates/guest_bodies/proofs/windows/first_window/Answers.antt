use Rattle.std.proofs.Common.{◌-◌, ◌∙◌, List, ℕ, length, ap}
use Rattle.arn_base.specs.Disk.{overwrite}
use Rattle.parts_model.specs.declared.limits.TheConstants.{WINDOW_START, WINDOW_LEN}
use Rattle.guest_bodies.proofs.Images.{first-window}
use Rattle.guest_bodies.proofs.windows.first_window.Goals as goal

pub returns : goal.returns
returns c =
    c.in_ok-lay_both.ensures
    ∙ (ap (λ (w : List ℕ). overwrite (overwrite w (c.args.image.load - WINDOW_START) c.args.body.now) (WINDOW_LEN - length c.args.block.now) c.args.block.now) c.in_ok-space.ensures.zeros
    ∙ first-window c.args.image.load c.args.body.now c.args.block.now c.requires.low c.requires.high c.requires.block)

-- The block's name is one, and the image fits.
use Rattle.std.proofs.Common.{sym, subst}
use Rattle.arn_commands.specs.declared.command.Command.{Command}
use Rattle.arn_commands.specs.Sizes.{Fits}
use Rattle.arn_commands.proofs.SizeLemmas.{is_image-fits, name-is_name}
use Rattle.arn_commands.proofs.block.Block.command.Goals as goal
use Rattle.arn_commands.proofs.block.Block.command.Goals.{then-is_ended, else-is_ended}

pub returns-in-Ok-clause-fits : goal.returns-in-Ok-clause-fits
returns-in-Ok-clause-fits c = elim c.if-is_ended.branch [
  | then-is_ended w ↦ subst (λ (x : Command). Fits x) (sym w.result-is) (name-is_name c.self.inside.name c.self.invariant.is_named, is_image-fits c.in-Ok.bytes c.in-Ok.ensures.accepted)
  | else-is_ended w ↦ subst (λ (x : Command). Fits x) (sym w.result-is) tt
]

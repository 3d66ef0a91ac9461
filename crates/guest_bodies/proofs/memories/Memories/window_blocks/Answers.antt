use Rattle.std.proofs.Common.{◌<◌, ◌^◌, length, List, sym, subst}
use Rattle.arn_base.specs.declared.machine.Block.{Block}
use Rattle.guest_bodies.proofs.Blocks.{blocks-few}
use Rattle.std.proofs.lemmas.Result.{IfOk-weaker}
use Rattle.guest_bodies.proofs.memories.Memories.window_blocks.Goals as goal

pub returns-clause-few : goal.returns-clause-few
returns-clause-few c =
    IfOk-weaker c.blocks-2.result _ _
    (λ (blocks : List Block) is. subst (λ (l : List Block). length l < 2 ^ 16) (sym is) (blocks-few c.at-space.result.now.bytes c.len-length.ensures.length))
    c.blocks-2.ensures

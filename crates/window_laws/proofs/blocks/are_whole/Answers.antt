use Rattle.std.proofs.Common.{◌≡◌, ◌≤◌, length, subst, arith, take_all}
use Rattle.std.proofs.lemmas.List.Elements.{All-more}
use Rattle.arn_base.specs.declared.machine.Block.{Block}
use Rattle.parts_model.specs.declared.limits.TheConstants.{BLOCK_LEN}
use Rattle.window_laws.specs.Blocks.{AreWhole}
use Rattle.window_laws.proofs.blocks.are_whole.Goals as goal

pub loop-block-preserved : goal.loop-block-preserved
loop-block-preserved c =
    All-more (λ (block : Block). length block.bytes ≡ BLOCK_LEN) c.args.blocks.now c.loop-block.block-index _ c.loop-block-test.true c.loop-block.invariant c.is_whole.ensures

pub returns : goal.returns
returns c =
    let past : length c.args.blocks.now ≤ c.loop-block.block-index = omega arith in
    subst AreWhole (take_all c.loop-block.block-index c.args.blocks.now past) c.loop-block.invariant

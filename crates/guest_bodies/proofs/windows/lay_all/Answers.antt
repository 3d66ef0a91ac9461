use Rattle.std.proofs.Common.{◌≤◌, ◌∙◌, length, arith}
use Rattle.guest_bodies.proofs.Laid.{one-more, none-left}
use Rattle.guest_bodies.proofs.windows.lay_all.Goals as goal

pub loop-block-preserved : goal.loop-block-preserved
loop-block-preserved c = record {
  laid = one-more c.args.blocks.now c.loop-block.block-index _ c.loop-block.space.bytes c.lay.new.space.bytes c.loop-block-test.true c.in_ok-lay.ensures.laid ∙ c.loop-block.invariant.laid;
  size = c.lay.ensures.length;
}

pub returns : goal.returns
returns c =
    let past : length c.args.blocks.now ≤ c.loop-block.block-index = omega arith in
    none-left c.args.blocks.now c.loop-block.block-index c.loop-block.space.bytes _ past c.loop-block.invariant.laid

use Rattle.std.proofs.Common.{[], arith}
use Rattle.arn_base.specs.declared.machine.Block.{Block}
use Rattle.result_log.specs.States.{block_fields, FitsBlock}
use Rattle.result_log.proofs.Growing.{each-more, front-more, spelled-more}
use Rattle.result_log.proofs.Options.{OnErr-always}
use Rattle.result_log.proofs.starts.put_blocks.Goals as goal

-- what an index behind the last names
no_block : Block
no_block = record { number = 0; bytes = [] }

pub loop-block-preserved : goal.loop-block-preserved
unfolding no_block
loop-block-preserved c = record {
  spelled = spelled-more block_fields c.args.blocks.now c.loop-block.block-index no_block c.put_u16.new.out.items c.loop-block.out.items c.put_block.new.out.items
      (omega arith) c.loop-block.invariant.spelled c.in_ok-put_block.ensures.ok;
  fits = each-more FitsBlock c.args.blocks.now c.loop-block.block-index no_block (omega arith) c.loop-block.invariant.fits c.in_ok-put_block.ensures.fits;
}

pub returns-in_err-put_block-clause-err : goal.returns-in_err-put_block-clause-err
returns-in_err-put_block-clause-err c =
    OnErr-always c.from_residual-in_err-put_block.result
    (front-more c.args.out.now.items c.put_u16.new.out.items c.put_block.new.out.items _ c.in_ok-put_u16.ensures.ok
    (front-more c.put_u16.new.out.items c.loop-block.out.items c.put_block.new.out.items _ c.loop-block.invariant.spelled c.in_err-put_block.ensures.err))

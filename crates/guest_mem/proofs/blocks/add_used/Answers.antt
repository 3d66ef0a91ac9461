use Rattle.std.proofs.Common.{◌+◌, ◌/◌, ◌<◌, ◌++◌, [], List, ap, arith, get_or, length, ◌∙◌}
use Rattle.arn_base.specs.declared.machine.Block.{Block}
use Rattle.parts_model.specs.Blocks.{used_block}
use Rattle.parts_model.specs.declared.limits.TheConstants.{BLOCK_LEN}
use Rattle.guest_mem.proofs.Used.{part-more}
use Rattle.guest_mem.proofs.blocks.add_used.Goals as goal

pub loop-index-preserved : goal.loop-index-preserved
loop-index-preserved c = λ window is before.
    let long = c.as_chunks.ensures.front_len in
    let test = c.loop-index-test.true in
    let inside : c.loop-index.index < length c.args.part.now / BLOCK_LEN = omega arith in
    c.in_ok-add_if_used.ensures
    ∙ ap (λ (l : List Block). l ++ used_block (record { number = c.args.first + c.loop-index.index; bytes = get_or c.as_chunks.result.0.now c.loop-index.index [] })) (c.loop-index.invariant window is before)
    ∙ part-more window c.args.part.now c.as_chunks.result.0.now c.args.first c.loop-index.index is c.as_chunks.ensures.front inside

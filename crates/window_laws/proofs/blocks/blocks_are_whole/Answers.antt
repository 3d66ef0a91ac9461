use Rattle.std.proofs.Common.{◌≤◌, length, All, subst, arith, take_all}
use Rattle.std.proofs.lemmas.List.Elements.{All-more}
use Rattle.window_laws.specs.Blocks.{HasWholeBlocks}
use Rattle.window_laws.proofs.blocks.blocks_are_whole.Goals as goal

pub loop-entry-preserved : goal.loop-entry-preserved
loop-entry-preserved c =
    let entry = c.entry-item.result in
    All-more HasWholeBlocks c.args.entries.now c.loop-entry.entry-index entry c.loop-entry-test.true c.loop-entry.invariant (subst HasWholeBlocks c.entry-item.is c.has_whole_blocks.ensures)

pub returns : goal.returns
returns c =
    let past : length c.args.entries.now ≤ c.loop-entry.entry-index = omega arith in
    subst (λ list. All HasWholeBlocks list) (take_all c.loop-entry.entry-index c.args.entries.now past) c.loop-entry.invariant

use Rattle.std.proofs.Common.{◌<◌, length, arith}
use Rattle.taint_group.proofs.Carrying.{memories-all, memories-more, memories-on}
use Rattle.taint_group.proofs.collects.carry_memories.Goals as goal

pub returns-in_err-carry-clause-on : goal.returns-in_err-carry-clause-on
returns-in_err-carry-clause-on c = memories-on c.args.carrying.now c.loop-key.carrying c.carry.new.carrying c.args.memories.now.items c.loop-key.memories.items c.loop-key.key c.loop-key.invariant c.carry.ensures.on

pub loop-key-preserved : goal.loop-key-preserved
loop-key-preserved c =
    let so = c.loop-key.invariant in
    let inside : c.loop-key.key < length c.loop-key.memories.items = omega (arith, so.len, c.loop-key-test.true, c.len-key-end.ensures, c.args.memories.now.ok) in
    memories-more c.args.carrying.now c.loop-key.carrying c.carry.new.carrying c.args.memories.now.items c.loop-key.memories.items c.loop-key.key c.index_mut.result.now c.carry.new.self so inside c.index_mut.ensures.value
    c.carry.ensures.on c.in_ok-carry.ensures.numbers

pub returns-clause-carried : goal.returns-clause-carried
returns-clause-carried c =
    memories-all c.args.carrying.now c.loop-key.carrying c.args.memories.now.items c.loop-key.memories.items c.loop-key.key c.loop-key.invariant (omega (arith, c.loop-key-test.false, c.len-key-end.ensures, c.args.memories.now.ok))

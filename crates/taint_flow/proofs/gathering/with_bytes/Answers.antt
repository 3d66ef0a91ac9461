use Rattle.std.proofs.Common.{◌-◌, ◌<◌, arith}
use Rattle.taint_flow.proofs.Bytes.{among-includes, before-trans, takes-more}
use Rattle.taint_flow.proofs.gathering.with_bytes.Goals as goal

pub with_byte-requires-clause-below : goal.with_byte-requires-clause-below
with_byte-requires-clause-below c some named =
    let i = c.loop-byte.byte in
    let within : i < 8 = c.loop-byte-test.true in
    among-includes c.args.sets.now c.loop-byte.sets c.args.numbers.now c.args.mask i (i - 1) c.args.start c.loop-byte.set (omega arith) named (c.requires.numbers.set (i - 1) (omega arith)) c.loop-byte.invariant.before c.loop-byte.invariant.takes

pub loop-byte-preserved : goal.loop-byte-preserved
loop-byte-preserved c = record {
  takes = takes-more c.args.sets.now c.loop-byte.sets c.with_byte.new.sets c.args.numbers.now c.args.mask c.loop-byte.byte c.args.start c.loop-byte.set c.in_ok-set.set c.loop-byte.invariant.takes c.loop-byte.invariant.before (c.requires.numbers.set c.loop-byte.byte c.loop-byte-test.true) c.in_ok-set.ensures.adds;
  before = before-trans c.args.sets.now c.loop-byte.sets c.with_byte.new.sets c.loop-byte.invariant.before c.with_byte.ensures.before;
}

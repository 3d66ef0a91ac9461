use Rattle.std.proofs.Common.{arith, sym, ◌∙◌}
use Rattle.replayer.proofs.PartLens.{part-here, part-next, part-past}
use Rattle.replayer.proofs.parts.part_end.Goals as goal

pub returns-then-not-is_event-clause-end : goal.returns-then-not-is_event-clause-end
returns-then-not-is_event-clause-end c =
    let none = part-here c.args.entries.now c.loop-place.place c.index-entries-place.result c.loop-place-test.true c.index-entries-place.is (sym c.is_event.ensures ∙ c.if-not-is_event.true) in
    let so-far = c.loop-place.invariant in
    omega (arith, none, so-far)

pub loop-place-preserved : goal.loop-place-preserved
loop-place-preserved c =
    let next = part-next c.args.entries.now c.loop-place.place c.index-entries-place.result c.loop-place-test.true c.index-entries-place.is (sym c.is_event.ensures ∙ c.if-not-is_event.false) in
    let so-far = c.loop-place.invariant in
    omega (arith, next, so-far)

pub returns-clause-end : goal.returns-clause-end
returns-clause-end c =
    let none = part-past c.args.entries.now c.loop-place.place (omega arith) in
    let so-far = c.loop-place.invariant in
    omega (arith, none, so-far)

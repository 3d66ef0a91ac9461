use Rattle.std.proofs.Common.{◌+◌, drop, slice_index_or, rules}
use Rattle.history_index.specs.Lookups.{slices_of}
use Rattle.replayer.proofs.Walking.{begin-fails, next-slice, no-slice, walk-begins, walk-ends, walk-fails, walk-lives, walk-next, walk-standing, walk-stands, walk-stops}
use Rattle.replayer.proofs.walk.replay_slices.Goals as goal

pub returns-in_err-begin_group-clause-err : goal.returns-in_err-begin_group-clause-err
returns-in_err-begin_group-clause-err g c =
    let explains = begin-fails c.args.entries.now c.args.group c.args.until c.requires.indexed.stands c.in_err-begin_group.field-0.0 c.in_err-begin_group.ensures.err in
    search (rules, explains)

pub loop-at-init : goal.loop-at-init
loop-at-init g c =
    walk-begins _ c.args.observer.now c.begin_group.new.observer c.args.steps.now c.args.entries.now c.args.group c.args.until c.begin_group.new.bodies c.requires.indexed.stands c.in_ok-begin_group.ensures.lives (c.in_ok-begin_group.ensures.ok c.args.steps.now)

pub returns-then-at-until-clause-ok : goal.returns-then-at-until-clause-ok
returns-then-at-until-clause-ok g c =
    let is = next-slice c.slices-at-items.result.now (slices_of c.args.entries.now c.args.group) c.loop-at.at-index (record { place = 0; moment = 0; pid = 0; ran = 0; event = 0 }) (c.slices-at-items.ensures c.args.entries.now c.requires.indexed) c.loop-at-test.true in
    walk-stops _ c.begin_group.new.observer c.loop-at.observer c.args.steps.now c.loop-at.steps c.args.entries.now c.args.group c.args.until (drop c.loop-at.at-index (slices_of c.args.entries.now c.args.group)) c.loop-at.bodies c.loop-at.invariant c.requires.indexed.stands (slice_index_or c.slices-at-items.result.now c.loop-at.at-index (record { place = 0; moment = 0; pid = 0; ran = 0; event = 0 }))
    (drop (c.loop-at.at-index + 1) (slices_of c.args.entries.now c.args.group)) is
    c.if-at-until.true c.args.observer.now c.begin_group.new.bodies (c.in_ok-begin_group.ensures.ok c.args.steps.now)

pub run_slice-requires-clause-lives : goal.run_slice-requires-clause-lives
run_slice-requires-clause-lives g c =
    let is = next-slice c.slices-at-items.result.now (slices_of c.args.entries.now c.args.group) c.loop-at.at-index (record { place = 0; moment = 0; pid = 0; ran = 0; event = 0 }) (c.slices-at-items.ensures c.args.entries.now c.requires.indexed) c.loop-at-test.true in
    walk-lives _ c.begin_group.new.observer c.loop-at.observer c.args.steps.now c.loop-at.steps c.args.entries.now c.args.group c.args.until (drop c.loop-at.at-index (slices_of c.args.entries.now c.args.group)) c.loop-at.bodies c.loop-at.invariant c.requires.indexed.stands (slice_index_or c.slices-at-items.result.now c.loop-at.at-index (record { place = 0; moment = 0; pid = 0; ran = 0; event = 0 }))
    (drop (c.loop-at.at-index + 1) (slices_of c.args.entries.now c.args.group)) is

pub run_slice-requires-clause-standing : goal.run_slice-requires-clause-standing
run_slice-requires-clause-standing g c =
    let is = next-slice c.slices-at-items.result.now (slices_of c.args.entries.now c.args.group) c.loop-at.at-index (record { place = 0; moment = 0; pid = 0; ran = 0; event = 0 }) (c.slices-at-items.ensures c.args.entries.now c.requires.indexed) c.loop-at-test.true in
    walk-standing _ c.begin_group.new.observer c.loop-at.observer c.args.steps.now c.loop-at.steps c.args.entries.now c.args.group c.args.until (drop c.loop-at.at-index (slices_of c.args.entries.now c.args.group)) c.loop-at.bodies c.loop-at.invariant c.requires.indexed.stands (slice_index_or c.slices-at-items.result.now c.loop-at.at-index (record { place = 0; moment = 0; pid = 0; ran = 0; event = 0 }))
    (drop (c.loop-at.at-index + 1) (slices_of c.args.entries.now c.args.group)) is

pub returns-in_err-run_slice-clause-err : goal.returns-in_err-run_slice-clause-err
returns-in_err-run_slice-clause-err g c =
    let is = next-slice c.slices-at-items.result.now (slices_of c.args.entries.now c.args.group) c.loop-at.at-index (record { place = 0; moment = 0; pid = 0; ran = 0; event = 0 }) (c.slices-at-items.ensures c.args.entries.now c.requires.indexed) c.loop-at-test.true in
    let stands = walk-stands _ c.begin_group.new.observer c.loop-at.observer c.args.steps.now c.loop-at.steps c.args.entries.now c.args.group c.args.until (drop c.loop-at.at-index (slices_of c.args.entries.now c.args.group)) c.loop-at.bodies c.loop-at.invariant c.requires.indexed.stands (slice_index_or c.slices-at-items.result.now c.loop-at.at-index (record { place = 0; moment = 0; pid = 0; ran = 0; event = 0 }))
    (drop (c.loop-at.at-index + 1) (slices_of c.args.entries.now c.args.group)) is in
    let explains =
    walk-fails _ c.begin_group.new.observer c.loop-at.observer c.args.steps.now c.loop-at.steps c.args.entries.now c.args.group c.args.until (drop c.loop-at.at-index (slices_of c.args.entries.now c.args.group)) c.loop-at.bodies c.loop-at.invariant c.requires.indexed.stands (slice_index_or c.slices-at-items.result.now c.loop-at.at-index (record { place = 0; moment = 0; pid = 0; ran = 0; event = 0 }))
    (drop (c.loop-at.at-index + 1) (slices_of c.args.entries.now c.args.group)) is
    c.in_err-run_slice.field-0.0 (c.in_err-run_slice.ensures.err c.loop-at.invariant.own stands) in
    search (rules, explains)

pub loop-at-preserved : goal.loop-at-preserved
loop-at-preserved g c =
    let is = next-slice c.slices-at-items.result.now (slices_of c.args.entries.now c.args.group) c.loop-at.at-index (record { place = 0; moment = 0; pid = 0; ran = 0; event = 0 }) (c.slices-at-items.ensures c.args.entries.now c.requires.indexed) c.loop-at-test.true in
    let stands = walk-stands _ c.begin_group.new.observer c.loop-at.observer c.args.steps.now c.loop-at.steps c.args.entries.now c.args.group c.args.until (drop c.loop-at.at-index (slices_of c.args.entries.now c.args.group)) c.loop-at.bodies c.loop-at.invariant c.requires.indexed.stands (slice_index_or c.slices-at-items.result.now c.loop-at.at-index (record { place = 0; moment = 0; pid = 0; ran = 0; event = 0 }))
    (drop (c.loop-at.at-index + 1) (slices_of c.args.entries.now c.args.group)) is in
    walk-next _ c.begin_group.new.observer c.loop-at.observer c.args.steps.now c.loop-at.steps c.args.entries.now c.args.group c.args.until (drop c.loop-at.at-index (slices_of c.args.entries.now c.args.group)) c.loop-at.bodies c.loop-at.invariant c.requires.indexed.stands (slice_index_or c.slices-at-items.result.now c.loop-at.at-index (record { place = 0; moment = 0; pid = 0; ran = 0; event = 0 }))
    (drop (c.loop-at.at-index + 1) (slices_of c.args.entries.now c.args.group)) is
    c.run_slice.new.bodies c.run_slice.new.observer c.run_slice.new.steps c.in_ok-run_slice.ensures.lives (c.in_ok-run_slice.ensures.ok c.loop-at.invariant.own stands) c.in_ok-run_slice.ensures.bounded

pub returns-clause-ok : goal.returns-clause-ok
returns-clause-ok g c =
    let none = no-slice c.slices-at-items.result.now (slices_of c.args.entries.now c.args.group) c.loop-at.at-index (c.slices-at-items.ensures c.args.entries.now c.requires.indexed) c.loop-at-test.false in
    walk-ends _ c.begin_group.new.observer c.loop-at.observer c.args.steps.now c.loop-at.steps c.args.entries.now c.args.group c.args.until (drop c.loop-at.at-index (slices_of c.args.entries.now c.args.group)) c.loop-at.bodies c.loop-at.invariant c.requires.indexed.stands
    c.args.observer.now c.begin_group.new.bodies (c.in_ok-begin_group.ensures.ok c.args.steps.now) none

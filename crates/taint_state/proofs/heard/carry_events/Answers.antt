use Rattle.std.proofs.Common.{◌<◌, length, ◌∙◌, arith}
use Rattle.std.proofs.lemmas.List.{get_or_default}
use Rattle.taint_state.proofs.Carrying.{carried-more, events-kept, on-twice}
use Rattle.taint_state.proofs.Ordered.{none_heard}
use Rattle.taint_state.proofs.heard.carry_events.Goals as goal

pub returns-in_err-carry_event-clause-kept : goal.returns-in_err-carry_event-clause-kept
returns-in_err-carry_event-clause-kept c =
    let so = c.loop-place.invariant in
    let inside : c.loop-place.place < length c.loop-place.list.items = omega (arith, so.kept.len, c.loop-place-test.true, c.len-place-end.ensures, c.args.list.now.ok) in
    events-kept c.args.carrying.now c.loop-place.carrying c.carry_event.new.carrying c.args.list.now.items c.loop-place.list.items c.loop-place.place c.index_mut.result.now c.carry_event.new.heard so inside
    (c.index_mut.ensures.value ∙ get_or_default c.loop-place.list.items c.loop-place.place c.index_mut.result.now none_heard inside) c.carry_event.ensures.on c.carry_event.ensures.event

pub returns-in_err-carry_event-clause-on : goal.returns-in_err-carry_event-clause-on
returns-in_err-carry_event-clause-on c = on-twice c.args.carrying.now c.loop-place.carrying c.carry_event.new.carrying c.loop-place.invariant.on c.carry_event.ensures.on

pub loop-place-preserved : goal.loop-place-preserved
loop-place-preserved c =
    let so = c.loop-place.invariant in
    let inside : c.loop-place.place < length c.loop-place.list.items = omega (arith, so.kept.len, c.loop-place-test.true, c.len-place-end.ensures, c.args.list.now.ok) in
    carried-more c.args.carrying.now c.loop-place.carrying c.carry_event.new.carrying c.args.list.now.items c.loop-place.list.items c.loop-place.place c.index_mut.result.now c.carry_event.new.heard so inside
    (c.index_mut.ensures.value ∙ get_or_default c.loop-place.list.items c.loop-place.place c.index_mut.result.now none_heard inside) c.carry_event.ensures.on c.carry_event.ensures.event c.in_ok-carry_event.ensures.carried

use Rattle.std.proofs.Common.{◌<◌, length, arith}
use Rattle.taint_group.proofs.Carrying.{members-all, members-more, members-on}
use Rattle.taint_group.proofs.collects.carry_members.Goals as goal

pub returns-in_err-carry_entry-clause-on : goal.returns-in_err-carry_entry-clause-on
returns-in_err-carry_entry-clause-on c = members-on c.args.carrying.now c.loop-place.carrying c.carry_entry.new.carrying c.args.members.now.items c.loop-place.members.items c.loop-place.place c.loop-place.invariant c.carry_entry.ensures.on

pub loop-place-preserved : goal.loop-place-preserved
loop-place-preserved c =
    let so = c.loop-place.invariant in
    let inside : c.loop-place.place < length c.loop-place.members.items = omega (arith, so.len, c.loop-place-test.true, c.len-place-end.ensures, c.args.members.now.ok) in
    members-more c.args.carrying.now c.loop-place.carrying c.carry_entry.new.carrying c.args.members.now.items c.loop-place.members.items c.loop-place.place c.index_mut.result.now c.carry_entry.new.entry so inside c.index_mut.ensures.value
    c.carry_entry.ensures.on c.in_ok-carry_entry.ensures.carried

pub returns-clause-carried : goal.returns-clause-carried
returns-clause-carried c =
    members-all c.args.carrying.now c.loop-place.carrying c.args.members.now.items c.loop-place.members.items c.loop-place.place c.loop-place.invariant (omega (arith, c.loop-place-test.false, c.len-place-end.ensures, c.args.members.now.ok))

use Rattle.std.proofs.Common.{◌∙◌, sym, ap, arith}
use Rattle.taint_group.specs.Moves.{held_key}
use Rattle.taint_group.proofs.Sharing.{found-key, free-key, none-more}
use Rattle.taint_group.proofs.Turning.{nth-place}
use Rattle.taint_group.proofs.memories.key_for.Goals as goal

pub returns-in-Some-clause-own : goal.returns-in-Some-clause-own
returns-in-Some-clause-own c =
    (found-key c.args.kind c.args.count c.args.event c.args.members.now c.requires.once c.loop-member.member-index c.in-Some.key
    (ap (held_key c.args.kind c.args.event) (nth-place c.args.members.now c.loop-member.member-index c.member-item.result c.loop-member-test.true ∙ sym c.member-item.is) ∙ (sym c.key_in.ensures ∙ c.in-Some.is))).0

pub returns-in-Some-clause-most : goal.returns-in-Some-clause-most
returns-in-Some-clause-most c =
    (found-key c.args.kind c.args.count c.args.event c.args.members.now c.requires.once c.loop-member.member-index c.in-Some.key
    (ap (held_key c.args.kind c.args.event) (nth-place c.args.members.now c.loop-member.member-index c.member-item.result c.loop-member-test.true ∙ sym c.member-item.is) ∙ (sym c.key_in.ensures ∙ c.in-Some.is))).1

pub loop-member-preserved : goal.loop-member-preserved
loop-member-preserved c =
    none-more c.args.kind c.args.event c.args.members.now c.loop-member.member-index c.member-item.result c.loop-member.invariant
    (nth-place c.args.members.now c.loop-member.member-index c.member-item.result c.loop-member-test.true ∙ sym c.member-item.is) (sym c.key_in.ensures ∙ c.in_default.is)

pub returns-clause-own : goal.returns-clause-own
returns-clause-own c = free-key c.args.kind c.free_key.result c.args.event c.args.members.now c.free_key.ensures.free (λ p below. c.loop-member.invariant p (omega arith))

use Rattle.std.proofs.Common.{◌-◌, ◌<◌, length, subst, sym, ◌∙◌, arith}
use Rattle.taint_group.specs.Moves.{HasNoKey}
use Rattle.taint_group.proofs.Releasing.{free-before, free-past}
use Rattle.taint_group.proofs.Turning.{nth-place}
use Rattle.taint_group.proofs.memories.is_held.Goals as goal

pub loop-place-preserved : goal.loop-place-preserved
loop-place-preserved c =
    let below : c.loop-place.place - 1 < length c.args.members.now = omega (arith, c.loop-place-test.true, c.loop-place.auto.place) in
    free-before c.args.key c.args.members.now (c.loop-place.place - 1) c.index-members-place.result (λ p from. c.loop-place.invariant p (omega (arith, from)))
    (nth-place c.args.members.now (c.loop-place.place - 1) c.index-members-place.result below ∙ sym c.index-members-place.is) (c.holds_key.ensures.free c.if-holds_key.false)

pub returns-then-holds_key-clause-held : goal.returns-then-holds_key-clause-held
returns-then-holds_key-clause-held c none =
    let below : c.loop-place.place - 1 < length c.args.members.now = omega (arith, c.loop-place-test.true, c.loop-place.auto.place) in
    sym c.if-holds_key.true
    ∙ c.holds_key.ensures.holds (subst (HasNoKey c.args.key) (nth-place c.args.members.now (c.loop-place.place - 1) c.index-members-place.result below ∙ sym c.index-members-place.is) (none (c.loop-place.place - 1)))

pub loop-place-init : goal.loop-place-init
loop-place-init c p past = free-past c.args.key c.args.members.now p (omega (arith, past))

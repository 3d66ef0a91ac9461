use Rattle.std.proofs.Common.{subst, get_or, ◌++◌}
use Rattle.guest_asm.specs.Kept.{defined_at, Knows}
use Rattle.guest_asm.proofs.Naming.{ends, goes_on, kept_at, knows_places, labels_more, labels_end, no_item}
use Rattle.guest_asm.proofs.labels.known_labels.Goals as goal

pub loop-item-preserved : goal.loop-item-preserved
loop-item-preserved c = λ is keeps.
    let so_far = c.loop-item.invariant is keeps in
    let at = c.loop-item.item-index in
    let r = (get_or is at no_item).reading in (
      so_far.0 ++ defined_at 0 r,
      c.in_ok-define.ensures so_far.0 r so_far.1 (kept_at c.args.items.now is at c.item-item.result keeps c.loop-item-test.true c.item-item.is).reads,
      labels_more is at so_far.0 0 (goes_on c.args.items.now is at keeps c.loop-item-test.true) so_far.2,
    )

pub returns : goal.returns
returns c = λ is keeps.
    let so_far = c.loop-item.invariant is keeps in
    let at = c.loop-item.item-index in
    subst (Knows c.loop-item.known) (labels_end is at so_far.0 (ends c.args.items.now is at keeps c.loop-item-test.false) so_far.2)
    (knows_places c.loop-item.known so_far.0 so_far.1)

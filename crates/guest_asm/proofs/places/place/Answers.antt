use Rattle.std.proofs.Common.{get_or, ◌++◌, ◌∷◌, []}
use Rattle.guest_asm.specs.Assembled.{labels, places, placed_from}
use Rattle.guest_asm.specs.Kept.{names_of, placed_at}
use Rattle.guest_asm.proofs.Naming.{ends, goes_on, kept_at, no_item}
use Rattle.guest_asm.proofs.Placing.{place_more, placed_all}
use Rattle.guest_asm.proofs.places.place.Goals as goal

pub loop-item-preserved : goal.loop-item-preserved
loop-item-preserved c = record {
  room = c.in_ok-place.ensures.room;
  placed = λ is keeps known.
      let names = labels is in
      let at = c.loop-item.item-index in
      let so_far = c.loop-item.invariant.placed is keeps known in
      let done = so_far.0 in
      let offset = c.loop-item.layout.offset in
      let i = get_or is at no_item in
      let kept = kept_at c.args.items.now is at c.item-item.result keeps c.loop-item-test.true c.item-item.is in (
        done ++ placed_at names (names_of (places done)) offset i ∷ [],
        c.in_ok-place.ensures.placed names done i known so_far.1 kept,
        place_more names is at done (placed_from names [] 0 is) offset c.place.new.self.offset (goes_on c.args.items.now is at keeps c.loop-item-test.true)
            (c.in_ok-place.ensures.offset names done i known so_far.1 kept) so_far.2,
      );
}

pub returns : goal.returns
returns c = λ is keeps known.
    let at = c.loop-item.item-index in
    placed_all c.loop-item.layout at is (ends c.args.items.now is at keeps c.loop-item-test.false) (c.loop-item.invariant.placed is keeps known)

use Rattle.std.proofs.Common.{List, sym, subst}
use Rattle.lineage_join.specs.Places.{at_of}
use Rattle.set_store.specs.declared.item.Item.{Item}
use Rattle.taint_state.specs.Shown.{AreItems}
use Rattle.followed_groups.specs.Following.{items_followed}
use Rattle.followed_pairs.proofs.Locals.{asked-told}
use Rattle.followed_pairs.proofs.told.FollowedLocalsLocals.items.Goals as goal

pub returns-in-Some : goal.returns-in-Some
returns-in-Some c =
    let f = c.args.self.now.followed.now in
    subst (λ (items : List Item). AreItems items (items_followed f c.args.event (at_of c.args.place))) (sym c.heard.ensures)
    (asked-told f c.are_followed.ensures c.hears_events.ensures c.unheard_have_none.ensures c.args.event c.args.place c.in-Some.point (sym c.in-Some.ensures))

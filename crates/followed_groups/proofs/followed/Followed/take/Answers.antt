use Rattle.std.proofs.Common.{[], Option, IfSome, append-nil, sym, subst}
use Rattle.taint_state.specs.Kept.{Kept}
use Rattle.followed_groups.specs.Follows.{Follows}
use Rattle.followed_groups.specs.Following.{Following}
use Rattle.followed_groups.specs.Relations.{IsRelation}
use Rattle.followed_groups.proofs.followed.Followed.take.Goals as goal

pub returns-clause-found : goal.returns-clause-found
returns-clause-found c =
    let i = c.self.inside in
    let f : Following = record { entries = i.entries.now; linkage = i.linkage; until = i.until; trackers = i.trackers.entries } in
    subst (λ (x : Following). IsRelation x.linkage x.entries c.args.group (record { extent = c.of-extent.result; tracker = c.in_ok-tracker.tracker })) c.self.view_is (record {
      before = f.entries;
      more = [];
      begins = sym (append-nil f.entries);
      index = i.index.now;
      indexed = c.self.invariant.indexed;
      moment = f.until;
      follows = subst (λ (o : Option Kept). IfSome o (Follows f.linkage f.entries f.until c.args.group)) (sym c.in_ok-tracker.ensures.value) (c.self.invariant.following c.args.group);
      extent = c.of-extent.ensures;
    })

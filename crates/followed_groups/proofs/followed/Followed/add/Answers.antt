use Rattle.std.proofs.Common.{◌≡◌, ◌⊎◌, IsSome, refl, sym, subst}
use Rattle.followed_groups.specs.Follows.{Follows}
use Rattle.followed_groups.specs.Following.{Adds, Following, tracker_of}
use Rattle.followed_groups.proofs.Added.{following-more, has-added, keeps-added, only-added}
use Rattle.followed_groups.proofs.followed.Followed.add.Goals as goal

pub invariant_of-self-2 : goal.invariant_of-self-2
invariant_of-self-2 c =
    let i = c.self.inside in
    let f : Following = record { entries = i.entries.now; linkage = i.linkage; until = i.until; trackers = i.trackers.entries } in
    let one : Follows f.linkage f.entries f.until c.args.group c.args.tracker = subst (λ (x : Following). Follows x.linkage x.entries x.until c.args.group c.args.tracker) (sym c.self.view_is) c.requires in
    record {
      countable = c.self.invariant.countable;
      indexed = c.self.invariant.indexed;
      following = following-more f c.args.group c.args.tracker c.insert.new.map.entries c.self.invariant.following one c.in_ok-insert.ensures.updates;
    }

pub returns-clause-only : goal.returns-clause-only
returns-clause-only c = λ h s.
    subst (λ (x : Following). IsSome (tracker_of x h) ⊎ (h ≡ c.args.group)) c.self.view_is
    (only-added c.args.group c.args.tracker c.self.inside.trackers.entries c.insert.new.map.entries c.in_ok-insert.ensures.updates h s)

pub returns-clause-adds : goal.returns-clause-adds
returns-clause-adds c =
    let i = c.self.inside in
    let new = c.insert.new.map.entries in
    let old : Following = record { entries = i.entries.now; linkage = i.linkage; until = i.until; trackers = i.trackers.entries } in
    let later : Following = record { entries = i.entries.now; linkage = i.linkage; until = i.until; trackers = new } in
    subst (λ (x : Following). Adds c.args.group x later) c.self.view_is (record {
      of = record { entries_are = refl; linkage_is = refl; until_is = refl };
      has = has-added c.args.group c.args.tracker i.trackers.entries new c.in_ok-insert.ensures.updates;
      keeps = keeps-added c.args.group c.args.tracker i.trackers.entries new c.in_ok-insert.ensures.updates;
    })

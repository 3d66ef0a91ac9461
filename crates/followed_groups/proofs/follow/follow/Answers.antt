use Rattle.std.proofs.Common.{sym, subst}
use Rattle.taint_state.specs.Kept.{Kept}
use Rattle.followed_groups.specs.Follows.{Follows}
use Rattle.followed_groups.proofs.Follows.{counted, follows, replayed}
use Rattle.followed_groups.proofs.follow.follow.Goals as goal

pub returns-clause-ok : goal.returns-clause-ok
returns-clause-ok g c =
    let a = c.args in
    let given = c.in_ok-after.ensures.ok in
    let run = replayed a.entries.now a.group a.until c.in_ok-tracker.tracker c.replay-replayed.new.observer a.steps.now c.replay-replayed.new.steps c.replay-replayed.result given.1 c.replay-replayed.ensures.ok in
    subst (λ (k : Kept). Follows a.linkage a.entries.now a.until a.group k) (sym given.0)
    (follows a.entries.now c.requires.indexed.stands a.group a.until c.in_ok-tracker.tracker c.replay-replayed.new.observer a.steps.now c.replay-replayed.new.steps run.0 run.1
    a.linkage c.follows_holders.ensures c.told_keeps.ensures c.told_hears.ensures c.told_holds.ensures c.blocks_are_whole.ensures c.in_ok-tracker.ensures)

pub returns-clause-counted : goal.returns-clause-counted
returns-clause-counted g c =
    let a = c.args in
    let run = replayed a.entries.now a.group a.until c.in_ok-tracker.tracker c.replay-replayed.new.observer a.steps.now c.replay-replayed.new.steps c.replay-replayed.result c.in_ok-after.ensures.ok.1 c.replay-replayed.ensures.ok in
    counted a.entries.now c.requires.indexed.stands a.group a.until c.in_ok-tracker.tracker c.replay-replayed.new.observer a.steps.now c.replay-replayed.new.steps run.0 run.1 c.runs_before.ensures

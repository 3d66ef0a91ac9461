use Rattle.std.proofs.Common.{◌≡◌, Err, ap, inl, inr, refl, subst, sym, ◌∙◌}
use Rattle.std.proofs.lemmas.Result.{IfOk-from_err, err_from_is_err_and}
use Rattle.replay_steps.specs.declared.errors.QueryError.TheVariants as error
use Rattle.taint_state.specs.Kept.{Kept}
use Rattle.followed_groups.specs.Follows.{Follows}
use Rattle.followed_groups.specs.Relations.{number_of}
use Rattle.followed_groups.specs.declared.relations.Relation.{Relation}
use Rattle.followed_groups.proofs.Caches.{kept-follows, still-of}
use Rattle.followed_groups.proofs.Follows.{on-ok}
use Rattle.followed_groups.proofs.relations.Relations.follow_one.Goals as goal

pub returns-in-Some-clause-ok : goal.returns-in-Some-clause-ok
returns-in-Some-clause-ok g c =
    let r : Relation = record { extent = c.of-extent.result; tracker = c.in-Some.tracker } in
    kept-follows c.equal_extents_make_one.ensures c.args.linkage c.args.entries.now c.args.group c.args.until r c.requires.indexed.stands (c.requires.seen c.args.linkage c.args.group r c.in-Some.ensures.found) c.of-extent.ensures

pub returns-in-Some-clause-adds : goal.returns-in-Some-clause-adds
returns-in-Some-clause-adds g c = c.take.ensures.kept

pub returns-in-Some-clause-seen : goal.returns-in-Some-clause-seen
returns-in-Some-clause-seen g c = still-of c.args.entries.now c.args.self.now c.take.new.self c.take.ensures.kept c.requires.seen

pub returns-in-Some-clause-room : goal.returns-in-Some-clause-room
returns-in-Some-clause-room g c = c.take.ensures.room

pub returns-in-Some-clause-all : goal.returns-in-Some-clause-all
returns-in-Some-clause-all g c = λ none. absurd (none (c.args.group, number_of c.args.linkage) (record { extent = c.of-extent.result; tracker = c.in-Some.tracker }) c.in-Some.ensures.found)

pub returns-in-Some-clause-counted : goal.returns-in-Some-clause-counted
returns-in-Some-clause-counted g c = inr (refl, refl)

pub returns-in_err-tracker-clause-err : goal.returns-in_err-tracker-clause-err
returns-in_err-tracker-clause-err g c =
    let p = err_from_is_err_and c.from_residual.result c.from_residual.ensures.1 in
    let is : c.from_residual.result ≡ Err c.in_err-tracker.field-0.0 = p.1 ∙ ap Err p.2 in
    rw is c.in_err-tracker.ensures.err

pub returns-in_err-tracker-clause-ok : goal.returns-in_err-tracker-clause-ok
returns-in_err-tracker-clause-ok g c = IfOk-from_err c.from_residual.result _ c.from_residual.ensures.0

pub returns-in_err-tracker-clause-counted : goal.returns-in_err-tracker-clause-counted
returns-in_err-tracker-clause-counted g c = IfOk-from_err c.from_residual.result _ c.from_residual.ensures.0

pub returns-in_err-tracker-clause-all : goal.returns-in_err-tracker-clause-all
returns-in_err-tracker-clause-all g c none = IfOk-from_err c.from_residual.result _ c.from_residual.ensures.0

pub returns-in_err-tracker-clause-adds : goal.returns-in_err-tracker-clause-adds
returns-in_err-tracker-clause-adds g c = c.take.ensures.kept

pub returns-in_err-tracker-clause-seen : goal.returns-in_err-tracker-clause-seen
returns-in_err-tracker-clause-seen g c = still-of c.args.entries.now c.args.self.now c.take.new.self c.take.ensures.kept c.requires.seen

pub returns-in_err-tracker-clause-bounded : goal.returns-in_err-tracker-clause-bounded
returns-in_err-tracker-clause-bounded g c = c.follow.ensures.bounded

pub returns-in_err-tracker-clause-room : goal.returns-in_err-tracker-clause-room
returns-in_err-tracker-clause-room g c = c.take.ensures.room

pub returns-in_err-after-clause-err : goal.returns-in_err-after-clause-err
returns-in_err-after-clause-err g c =
    let p = err_from_is_err_and c.from_residual-in_err-after.result c.from_residual-in_err-after.ensures.1 in
    let is : c.from_residual-in_err-after.result ≡ Err error.NoMemory = p.1 ∙ ap Err p.2 in
    rw is tt

pub returns-in_err-after-clause-ok : goal.returns-in_err-after-clause-ok
returns-in_err-after-clause-ok g c = IfOk-from_err c.from_residual-in_err-after.result _ c.from_residual-in_err-after.ensures.0

pub returns-in_err-after-clause-counted : goal.returns-in_err-after-clause-counted
returns-in_err-after-clause-counted g c = IfOk-from_err c.from_residual-in_err-after.result _ c.from_residual-in_err-after.ensures.0

pub returns-in_err-after-clause-all : goal.returns-in_err-after-clause-all
returns-in_err-after-clause-all g c none = IfOk-from_err c.from_residual-in_err-after.result _ c.from_residual-in_err-after.ensures.0

pub returns-in_err-after-clause-bounded : goal.returns-in_err-after-clause-bounded
returns-in_err-after-clause-bounded g c = c.follow.ensures.bounded

pub returns-in_err-after-clause-adds : goal.returns-in_err-after-clause-adds
returns-in_err-after-clause-adds g c = c.take.ensures.kept

pub returns-in_err-after-clause-seen : goal.returns-in_err-after-clause-seen
returns-in_err-after-clause-seen g c = still-of c.args.entries.now c.args.self.now c.take.new.self c.take.ensures.kept c.requires.seen

pub returns-in_err-after-clause-room : goal.returns-in_err-after-clause-room
returns-in_err-after-clause-room g c = c.take.ensures.room

pub returns-clause-ok : goal.returns-clause-ok
returns-clause-ok g c = subst (λ (k : Kept). Follows c.args.linkage c.args.entries.now c.args.until c.args.group k) (sym c.in_ok-after.ensures.ok.0) c.in_ok-tracker.ensures.ok

pub returns-clause-counted : goal.returns-clause-counted
returns-clause-counted g c = inl (on-ok c.push.result _ c.in_ok-after.ensures.ok.1 c.push.ensures.ok, c.in_ok-tracker.ensures.counted)

pub returns-clause-all : goal.returns-clause-all
returns-clause-all g c = λ none. on-ok c.push.result _ c.in_ok-after.ensures.ok.1 c.push.ensures.ok

pub returns-clause-bounded : goal.returns-clause-bounded
returns-clause-bounded g c = c.follow.ensures.bounded

pub returns-clause-adds : goal.returns-clause-adds
returns-clause-adds g c = c.take.ensures.kept

pub returns-clause-seen : goal.returns-clause-seen
returns-clause-seen g c = still-of c.args.entries.now c.args.self.now c.take.new.self c.take.ensures.kept c.requires.seen

pub returns-clause-room : goal.returns-clause-room
returns-clause-room g c = c.take.ensures.room

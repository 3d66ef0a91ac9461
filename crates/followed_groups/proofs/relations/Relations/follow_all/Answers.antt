use Rattle.std.proofs.Common.{◌≡◌, Err, ◌∙◌, arith, ap, refl, rules, sym, get_or, ◌++◌, ◌∷◌, [], List, ℕ}
use Rattle.std.proofs.lemmas.List.{take_more, take_all}
use Rattle.std.proofs.lemmas.Result.{IfOk-from_err, err_from_is_err_and}
use Rattle.query_model.specs.Answers.{first_disagreement}
use Rattle.replay_steps.specs.declared.errors.QueryError.TheVariants as error
use Rattle.followed_groups.proofs.Parts.{none-yet, part-all, part-more, ran-more, ran-none}
use Rattle.followed_groups.proofs.Several.{first-explains, has-all, has-more, next-agrees, none-left, only-all, only-more, ran-here, still-of}
use Rattle.followed_groups.proofs.relations.Relations.follow_all.Goals as goal

pub loop-group-init : goal.loop-group-init
loop-group-init g c = record {
  of = c.new-followed.ensures.of;
  has = λ h k. search rules;
  only = c.new-followed.ensures.none;
  first = refl;
  part = none-yet c.new-replayed.result c.args.groups.now c.new-replayed.ensures;
  counted = ran-none c.args.entries.now c.args.until c.new-replayed.result c.args.steps.now c.new-replayed.ensures;
  bounded = omega arith;
  all = λ none. c.new-replayed.ensures;
  adds = λ key r h. h;
  seen = c.requires.seen;
  room = refl;
}

pub loop-group-preserved : goal.loop-group-preserved
loop-group-preserved g c =
    let entries = c.args.entries.now in
    let groups = c.args.groups.now in
    let i = c.loop-group.group-index in
    let inside = c.loop-group-test.true in
    let here = ran-here entries c.args.until groups i inside in
    let before = c.loop-group.invariant.bounded in
    let ran = c.in_ok-tracker.ensures in
    let at_most = ran.bounded in
    record {
      of = still-of entries c.args.linkage c.args.until _ c.loop-group.followed c.add.new.self c.loop-group.invariant.of c.in_ok-add.ensures.adds;
      has = has-more groups i c.loop-group.followed c.add.new.self inside c.in_ok-add.ensures.adds c.loop-group.invariant.has;
      only = only-more groups i c.loop-group.followed c.add.new.self inside c.in_ok-add.ensures.only c.loop-group.invariant.only;
      first = next-agrees entries c.args.until groups i inside c.args.linkage c.in_ok-tracker.tracker _ c.in_ok-tracker.ensures.ok c.loop-group.invariant.first;
      part = part-more entries c.args.until groups i inside c.loop-group.replayed c.follow_one.new.replayed c.loop-group.steps c.follow_one.new.steps ran.counted c.loop-group.invariant.part;
      counted = ran-more entries c.args.until groups i inside c.loop-group.replayed c.follow_one.new.replayed c.loop-group.steps c.follow_one.new.steps ran.counted c.args.steps.now c.loop-group.invariant.counted;
      bounded = omega (arith, here, before, at_most);
      all = λ none. ran.all (λ key r h. none key r (c.loop-group.invariant.adds key r h)) ∙ (ap (λ (xs : List ℕ). xs ++ get_or groups i 0 ∷ []) (c.loop-group.invariant.all none) ∙ sym (take_more groups i 0 inside));
      adds = λ key r h. c.loop-group.invariant.adds key r (ran.adds key r h);
      seen = ran.seen;
      room = ran.room ∙ c.loop-group.invariant.room;
    }

pub returns-clause-has : goal.returns-clause-has
returns-clause-has g c = has-all c.args.groups.now c.loop-group.group-index c.loop-group.followed c.loop-group-test.false c.loop-group.invariant.has

pub returns-clause-only : goal.returns-clause-only
returns-clause-only g c = only-all c.args.groups.now c.loop-group.group-index c.loop-group.followed c.loop-group-test.false c.loop-group.invariant.only

pub returns-clause-part : goal.returns-clause-part
returns-clause-part g c = part-all c.args.groups.now c.loop-group.replayed c.loop-group.group-index c.loop-group-test.false c.loop-group.invariant.part

pub returns-clause-all : goal.returns-clause-all
returns-clause-all g c = λ none. c.loop-group.invariant.all none ∙ take_all c.loop-group.group-index c.args.groups.now c.loop-group-test.false

pub returns-in_err-tracker-clause-of : goal.returns-in_err-tracker-clause-of
returns-in_err-tracker-clause-of g c = IfOk-from_err c.from_residual.result _ c.from_residual.ensures.0

pub returns-in_err-tracker-clause-has : goal.returns-in_err-tracker-clause-has
returns-in_err-tracker-clause-has g c = IfOk-from_err c.from_residual.result _ c.from_residual.ensures.0

pub returns-in_err-tracker-clause-only : goal.returns-in_err-tracker-clause-only
returns-in_err-tracker-clause-only g c = IfOk-from_err c.from_residual.result _ c.from_residual.ensures.0

pub returns-in_err-tracker-clause-agree : goal.returns-in_err-tracker-clause-agree
returns-in_err-tracker-clause-agree g c = IfOk-from_err c.from_residual.result _ c.from_residual.ensures.0

pub returns-in_err-tracker-clause-part : goal.returns-in_err-tracker-clause-part
returns-in_err-tracker-clause-part g c = IfOk-from_err c.from_residual.result _ c.from_residual.ensures.0

pub returns-in_err-tracker-clause-counted : goal.returns-in_err-tracker-clause-counted
returns-in_err-tracker-clause-counted g c = IfOk-from_err c.from_residual.result _ c.from_residual.ensures.0

pub returns-in_err-tracker-clause-all : goal.returns-in_err-tracker-clause-all
returns-in_err-tracker-clause-all g c none = IfOk-from_err c.from_residual.result _ c.from_residual.ensures.0

pub returns-in_err-tracker-clause-err : goal.returns-in_err-tracker-clause-err
returns-in_err-tracker-clause-err g c =
    let p = err_from_is_err_and c.from_residual.result c.from_residual.ensures.1 in
    let is : c.from_residual.result ≡ Err c.in_err-tracker.field-0.0 = p.1 ∙ ap Err p.2 in
    rw is (first-explains c.args.entries.now c.args.until c.args.groups.now c.loop-group.group-index c.loop-group-test.true (first_disagreement c.args.entries.now c.args.until c.args.groups.now) c.in_err-tracker.field-0.0 c.loop-group.invariant.first c.in_err-tracker.ensures.err)

pub returns-in_err-tracker-clause-bounded : goal.returns-in_err-tracker-clause-bounded
returns-in_err-tracker-clause-bounded g c =
    let here = ran-here c.args.entries.now c.args.until c.args.groups.now c.loop-group.group-index c.loop-group-test.true in
    let before = c.loop-group.invariant.bounded in
    let at_most = c.follow_one.ensures.bounded in
    omega (arith, here, before, at_most)

pub returns-in_err-tracker-clause-adds : goal.returns-in_err-tracker-clause-adds
returns-in_err-tracker-clause-adds g c = λ key r h. c.loop-group.invariant.adds key r (c.follow_one.ensures.adds key r h)

pub returns-in_err-tracker-clause-seen : goal.returns-in_err-tracker-clause-seen
returns-in_err-tracker-clause-seen g c = c.follow_one.ensures.seen

pub returns-in_err-tracker-clause-room : goal.returns-in_err-tracker-clause-room
returns-in_err-tracker-clause-room g c = c.follow_one.ensures.room ∙ c.loop-group.invariant.room

pub returns-in_err-add-clause-err : goal.returns-in_err-add-clause-err
returns-in_err-add-clause-err g c =
    let p = err_from_is_err_and c.from_residual-in_err-add.result c.from_residual-in_err-add.ensures.1 in
    let is : c.from_residual-in_err-add.result ≡ Err error.NoMemory = p.1 ∙ ap Err p.2 in
    rw is tt

pub returns-in_err-add-clause-of : goal.returns-in_err-add-clause-of
returns-in_err-add-clause-of g c = IfOk-from_err c.from_residual-in_err-add.result _ c.from_residual-in_err-add.ensures.0

pub returns-in_err-add-clause-has : goal.returns-in_err-add-clause-has
returns-in_err-add-clause-has g c = IfOk-from_err c.from_residual-in_err-add.result _ c.from_residual-in_err-add.ensures.0

pub returns-in_err-add-clause-only : goal.returns-in_err-add-clause-only
returns-in_err-add-clause-only g c = IfOk-from_err c.from_residual-in_err-add.result _ c.from_residual-in_err-add.ensures.0

pub returns-in_err-add-clause-agree : goal.returns-in_err-add-clause-agree
returns-in_err-add-clause-agree g c = IfOk-from_err c.from_residual-in_err-add.result _ c.from_residual-in_err-add.ensures.0

pub returns-in_err-add-clause-part : goal.returns-in_err-add-clause-part
returns-in_err-add-clause-part g c = IfOk-from_err c.from_residual-in_err-add.result _ c.from_residual-in_err-add.ensures.0

pub returns-in_err-add-clause-counted : goal.returns-in_err-add-clause-counted
returns-in_err-add-clause-counted g c = IfOk-from_err c.from_residual-in_err-add.result _ c.from_residual-in_err-add.ensures.0

pub returns-in_err-add-clause-all : goal.returns-in_err-add-clause-all
returns-in_err-add-clause-all g c none = IfOk-from_err c.from_residual-in_err-add.result _ c.from_residual-in_err-add.ensures.0

pub returns-in_err-add-clause-bounded : goal.returns-in_err-add-clause-bounded
returns-in_err-add-clause-bounded g c =
    let here = ran-here c.args.entries.now c.args.until c.args.groups.now c.loop-group.group-index c.loop-group-test.true in
    let before = c.loop-group.invariant.bounded in
    let at_most = c.follow_one.ensures.bounded in
    omega (arith, here, before, at_most)

pub returns-in_err-add-clause-adds : goal.returns-in_err-add-clause-adds
returns-in_err-add-clause-adds g c = λ key r h. c.loop-group.invariant.adds key r (c.follow_one.ensures.adds key r h)

pub returns-in_err-add-clause-seen : goal.returns-in_err-add-clause-seen
returns-in_err-add-clause-seen g c = c.follow_one.ensures.seen

pub returns-in_err-add-clause-room : goal.returns-in_err-add-clause-room
returns-in_err-add-clause-room g c = c.follow_one.ensures.room ∙ c.loop-group.invariant.room

pub returns-clause-of : goal.returns-clause-of
returns-clause-of g c = c.loop-group.invariant.of

pub returns-clause-agree : goal.returns-clause-agree
returns-clause-agree g c = c.loop-group.invariant.first ∙ none-left c.args.entries.now c.args.until c.args.groups.now c.loop-group.group-index c.loop-group-test.false

pub returns-clause-counted : goal.returns-clause-counted
returns-clause-counted g c = c.loop-group.invariant.counted

pub returns-clause-bounded : goal.returns-clause-bounded
returns-clause-bounded g c = let before = c.loop-group.invariant.bounded in omega (arith, before)

pub returns-clause-adds : goal.returns-clause-adds
returns-clause-adds g c = c.loop-group.invariant.adds

pub returns-clause-seen : goal.returns-clause-seen
returns-clause-seen g c = c.loop-group.invariant.seen

pub returns-clause-room : goal.returns-clause-room
returns-clause-room g c = c.loop-group.invariant.room

use Rattle.std.proofs.Common.{◌+◌, option_and_then, rules}
use Rattle.std.proofs.lemmas.Result.{IfErr-weaker, on_ok_weaker}
use Rattle.acts_model.specs.Told.{act_of}
use Rattle.replay_steps.specs.Calls.{child_joined}
use Rattle.replay_steps.specs.Plain.{slice_of}
use Rattle.replay_steps.specs.Standing.{Explains}
use Rattle.history_model.specs.Alone.{ends_slice, happens}
use Rattle.replay_steps.proofs.Ends.{ends-both, ends-first, ends-second}
use Rattle.replay_steps.proofs.Lives.{gains-both}
use Rattle.replay_steps.proofs.turn.end_slice.Goals as goal

pub returns-in_err-run-clause-err : goal.returns-in_err-run-clause-err
returns-in_err-run-clause-err g c own stands =
    let explains = ends-first (slice_of c.args.slice.now) c.args.owed c.args.entry.now own c.if-owed-eq0.false c.in_err-run.field-0.0 (c.in_err-run.ensures.err own c.args.slice.now.event stands) in
    search (rules, explains)

pub happen-requires-clause-standing : goal.happen-requires-clause-standing
happen-requires-clause-standing g c =
    let r = c.in_ok-run.ensures.ok c.requires.standing.own c.args.slice.now.event c.requires.standing.stands in
    record { own = r.own'; stands = r.stands }

pub returns-clause-ok : goal.returns-clause-ok
returns-clause-ok g c own stands =
    let r = c.in_ok-run.ensures.ok own c.args.slice.now.event stands in
    on_ok_weaker c.happen.result
    (ends-both (slice_of c.args.slice.now) c.args.owed c.args.entry.now own c.if-owed-eq0.false _ c.args.observer.now c.run.new.observer c.args.steps.now c.run.new.steps c.run.new.bodies r c.happen.new.observer c.happen.new.steps (c.args.slice.now.event + 1) c.happen.new.bodies)
    (c.happen.ensures.ok r.own' r.stands)

pub returns-clause-err : goal.returns-clause-err
returns-clause-err g c own stands =
    let r = c.in_ok-run.ensures.ok own c.args.slice.now.event stands in
    IfErr-weaker c.happen.result (Explains (happens c.args.slice.now.pid c.args.slice.now.event c.args.entry.now r.own')) (Explains (ends_slice (slice_of c.args.slice.now) c.args.owed c.args.entry.now own))
    (ends-second (slice_of c.args.slice.now) c.args.owed c.args.entry.now own c.if-owed-eq0.false _ c.args.observer.now c.run.new.observer c.args.steps.now c.run.new.steps c.run.new.bodies r)
    (c.happen.ensures.err r.own' r.stands)

pub returns-clause-lives : goal.returns-clause-lives
returns-clause-lives g c cpu =
    on_ok_weaker c.happen.result (gains-both (option_and_then child_joined (act_of cpu c.args.entry.now)) c.args.bodies.now c.run.new.bodies c.happen.new.bodies c.in_ok-run.ensures.lives) (c.happen.ensures.lives cpu)

use Rattle.history_model.specs.Events.{event_at}
use Rattle.lineage_join.specs.Laws.{reaches}
use Rattle.lineage_join.specs.Waits.{from_wait}
use Rattle.lineage_join.proofs.Turns.{turned, fallen, ended}
use Rattle.lineage_join.proofs.pairs.follow_all.Goals as goal

pub loop-wait-smaller : goal.loop-wait-smaller
loop-wait-smaller g c =
    fallen (from_wait (event_at c.args.entries.now) (reaches c.args.entries.now (g.P.Locals.items c.args.locals.now))) c.loop-wait.waiting c.next.new.self c.step.new.waiting c.in-Some.wait c.loop-wait.found c.step.new.found
    c.in-Some.ensures.some c.in_ok-step.ensures.ok c.in_ok-step.ensures.numbered

pub loop-wait-preserved : goal.loop-wait-preserved
loop-wait-preserved g c =
    let turn = turned (from_wait (event_at c.args.entries.now) (reaches c.args.entries.now (g.P.Locals.items c.args.locals.now))) c.loop-wait.waiting c.next.new.self c.step.new.waiting c.in-Some.wait c.loop-wait.found c.step.new.found
    c.in-Some.ensures.some c.in_ok-step.ensures.ok in
    record {
      comes = λ p. (λ s. (c.loop-wait.invariant.comes p).0 ((turn p).0 s), λ s. (turn p).1 ((c.loop-wait.invariant.comes p).1 s));
      numbered = c.in_ok-step.ensures.numbered;
    }

pub returns : goal.returns
returns g c =
    ended (from_wait (event_at c.args.entries.now) (reaches c.args.entries.now (g.P.Locals.items c.args.locals.now))) c.args.waiting.now c.loop-wait.waiting c.args.found.now c.loop-wait.found
    c.in_default.ensures.none c.loop-wait.invariant.comes

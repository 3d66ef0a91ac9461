use Rattle.std.proofs.Common.{Some, None, option_map, refl, ap, sym, ◌∙◌}
use Rattle.replay_steps.specs.Calls.{wrong_as}
use Rattle.replay_steps.proofs.Happens.{happened-told}
use Rattle.replay_steps.proofs.happening.happen.Goals as goal

pub returns-in_ok-begin-clause-ok : goal.returns-in_ok-begin-clause-ok
returns-in_ok-begin-clause-ok g c own stands =
    happened-told _ c.args.observer.now c.tell.new.observer c.begin.new.self c.args.steps.now c.wrong.new.steps c.args.bodies.now c.wrong.new.bodies c.act.new.bodies c.args.event c.args.pid c.args.entry.now own stands
    c.others_stay_unheld.ensures c.requires.own (c.is_live.ensures.0 c.if-not-is_live.false) c.wrong.ensures.same
    (λ v is. ap (option_map wrong_as) (sym c.in_default.is) ∙ c.in_ok-finding.ensures.wrong v is) c.in_ok-tell.ensures c.in_ok-child.ensures.done
    (Some c.in-Some-2.child) (λ cpu. sym c.in-Some-2.is ∙ c.in_ok-child.ensures.child cpu) (c.begin.new.self, c.in_ok-begin.ensures, refl) c.wrong.ensures.counted

pub returns-in_default-2-clause-ok : goal.returns-in_default-2-clause-ok
returns-in_default-2-clause-ok g c own stands =
    happened-told _ c.args.observer.now c.tell.new.observer c.tell.new.observer c.args.steps.now c.wrong.new.steps c.args.bodies.now c.wrong.new.bodies c.act.new.bodies c.args.event c.args.pid c.args.entry.now own stands
    c.others_stay_unheld.ensures c.requires.own (c.is_live.ensures.0 c.if-not-is_live.false) c.wrong.ensures.same
    (λ v is. ap (option_map wrong_as) (sym c.in_default.is) ∙ c.in_ok-finding.ensures.wrong v is) c.in_ok-tell.ensures c.in_ok-child.ensures.done
    None (λ cpu. sym c.in_default-2.is ∙ c.in_ok-child.ensures.child cpu) refl c.wrong.ensures.counted

use Rattle.std.proofs.Common.{ap, sym, ◌∙◌, arith}
use Rattle.history_model.specs.Alone as alone
use Rattle.replay_steps.specs.Plain.{slice_of}
use Rattle.replay_steps.specs.Standing.{disagreement}
use Rattle.replay_steps.specs.declared.errors.Disagrees.{Disagrees}
use Rattle.replay_steps.proofs.Plains.{told-all, told-fewer}
use Rattle.replay_steps.proofs.plain.run.Goals as goal

pub returns-then-ran-count-clause-err : goal.returns-then-ran-count-clause-err
returns-then-ran-count-clause-err g c own event stands =
    told-fewer (record { begins = g.O.Observer.begins; runs = g.O.Observer.runs; hears = g.O.Observer.hears }) c.args.observer.now c.args.steps.now own (slice_of c.args.slice.now) c.args.count c.in_ok-ran.ran event c.args.bodies.now c.run_told.new.self c.run_told.new.observer c.if-ran-count.true
    c.others_stay_unheld.ensures stands c.in_ok-ran.ensures.told (c.in_ok-ran.ensures.stops c.if-ran-count.true)
    ∙ ap (λ (d : Disagrees). alone.Fails (disagreement d)) (sym c.stops_after-then-ran-count.ensures)

pub returns-clause-ok : goal.returns-clause-ok
returns-clause-ok g c own event stands =
    let within = c.in_ok-ran.ensures.within in
    let whole = c.if-ran-count.false in
    told-all (record { begins = g.O.Observer.begins; runs = g.O.Observer.runs; hears = g.O.Observer.hears }) c.args.observer.now c.args.steps.now own (slice_of c.args.slice.now) c.args.count c.in_ok-ran.ran event c.args.bodies.now c.run_told.new.self c.run_told.new.observer c.run_told.new.steps
    within (omega (arith, whole)) (c.in_ok-ran.ensures.counted (omega (arith, within, whole))) c.others_stay_unheld.ensures stands c.in_ok-ran.ensures.told

use Rattle.std.proofs.Common.{◌+◌, sym, subst}
use Rattle.std.proofs.lemmas.Result.{IfErr-weaker, on_ok_weaker}
use Rattle.history_model.specs.Alone.{Made, boots, nothing_own}
use Rattle.replay_steps.specs.Standing.{Explains, Reaches}
use Rattle.replay_steps.specs.declared.errors.ReplayError.{ReplayError}
use Rattle.replayer.specs.BySlices.{first_made}
use Rattle.replayer.proofs.Begun.{first-boots, first-starts}
use Rattle.replayer.proofs.Founders.{nothing-stands}
use Rattle.replayer.proofs.founding.begin.Goals as goal

pub begin-requires-clause-standing : goal.begin-requires-clause-standing
begin-requires-clause-standing g c = record { own = nothing_own; stands = nothing-stands c.args.bodies.now c.args.event c.requires.none }

pub returns-in_ok-begin-in-Some-clause-ok : goal.returns-in_ok-begin-in-Some-clause-ok
returns-in_ok-begin-in-Some-clause-ok g c count =
    subst (λ (made : Made). Reaches (record { begins = g.O.Observer.begins; runs = g.O.Observer.runs; hears = g.O.Observer.hears }) c.args.observer.now count nothing_own made c.begin.new.bodies (c.args.event + 1) c.begin.new.observer count)
    (sym (first-starts c.args.group c.args.event c.args.entry.now c.in-Some.start.now (sym c.in-Some.ensures)))
    (c.in_ok-begin-in-Some.ensures.ok nothing_own count c.args.entry.now (nothing-stands c.args.bodies.now c.args.event c.requires.none))

pub returns-in-None-clause-ok : goal.returns-in-None-clause-ok
returns-in-None-clause-ok g c count =
    let first = first-boots c.args.group c.args.event c.args.entry.now c.requires.begins.founds (sym c.in-None.ensures) in
    on_ok_weaker c.boot.result
    (subst (λ (made : Made). Reaches (record { begins = g.O.Observer.begins; runs = g.O.Observer.runs; hears = g.O.Observer.hears }) c.args.observer.now count nothing_own made c.boot.new.bodies (c.args.event + 1) c.boot.new.observer count) (sym first.made))
    (c.boot.ensures.ok nothing_own count (nothing-stands c.args.bodies.now c.args.event c.requires.none))

pub returns-in-None-clause-err : goal.returns-in-None-clause-err
returns-in-None-clause-err g c =
    let first = first-boots c.args.group c.args.event c.args.entry.now c.requires.begins.founds (sym c.in-None.ensures) in
    IfErr-weaker c.boot.result (Explains (boots c.args.event c.args.entry.now nothing_own)) (Explains (first_made c.args.group c.args.event c.args.entry.now))
    (λ (err : ReplayError) (explains : Explains (boots c.args.event c.args.entry.now nothing_own) err). subst (λ (made : Made). Explains made err) (sym first.made) explains)
    (c.boot.ensures.err nothing_own)

use Rattle.std.proofs.Common.{◌<◌, ◌≤◌, ◌+◌, arith, drop, length, sym, subst}
use Rattle.std.proofs.lemmas.Result.{IfErr-weaker, on_ok_weaker}
use Rattle.acts_model.specs.Views.{cpu_at}
use Rattle.history_model.specs.Alone as alone
use Rattle.replay_steps.specs.Plain.{slice_of}
use Rattle.replay_steps.specs.Standing.{Explains}
use Rattle.replayer.specs.Parts.{part_len, part_made, part_of}
use Rattle.replayer.specs.declared.parts.Part.{Part}
use Rattle.replayer.proofs.Running.{InPart, part-begins, part-end-fails, part-ends, part-free, part-goes-on, slice-hand, slice-made-up}
use Rattle.replayer.proofs.parts.run_slice.Goals as goal

pub loop-place-init : goal.loop-place-init
loop-place-init g c =
    subst (λ (p : Part). InPart (record { begins = g.O.Observer.begins; runs = g.O.Observer.runs; hears = g.O.Observer.hears }) c.args.observer.now c.args.steps.now c.args.entries.now c.args.bodies.now (part_of c.args.until c.args.at.now) (c.args.at.now.place + 1) (c.args.at.now.place + 1) p c.args.bodies.now c.args.observer.now c.args.steps.now) (sym c.new-part.ensures)
    (part-begins _ c.args.observer.now c.args.steps.now c.args.entries.now c.args.bodies.now (part_of c.args.until c.args.at.now) (c.args.at.now.place + 1)
    (slice-hand c.args.entries.now c.args.at.now.place c.args.at.now.pid c.args.at.now.ran c.requires.stands c.requires.inside c.requires.slice)
    (slice-made-up c.args.entries.now c.args.at.now.place c.args.at.now.pid c.args.at.now.ran c.requires.stands c.requires.inside c.requires.slice)
    c.requires.lives)

pub take-requires-clause-child : goal.take-requires-clause-child
take-requires-clause-child g c =
    let lt : c.loop-place.place < length c.args.entries.now = omega (arith, c.part_end-place-end.ensures.inside) in
    part-free _ c.args.observer.now c.loop-place.observer c.args.steps.now c.loop-place.steps c.args.entries.now c.args.bodies.now c.loop-place.bodies (part_of c.args.until c.args.at.now) c.loop-place.part (c.args.at.now.place + 1) c.loop-place.place c.loop-place.invariant
    c.index-entries-place.result c.requires.stands c.requires.few lt c.index-entries-place.is

pub loop-place-preserved : goal.loop-place-preserved
loop-place-preserved g c =
    let lt : c.loop-place.place < length c.args.entries.now = omega (arith, c.part_end-place-end.ensures.inside) in
    let inside : c.loop-place.place < part_len (drop (c.args.at.now.place + 1) c.args.entries.now) + (c.args.at.now.place + 1) = omega (arith, c.part_end-place-end.ensures.end) in
    part-goes-on _ c.args.observer.now c.loop-place.observer c.args.steps.now c.loop-place.steps c.args.entries.now c.args.bodies.now c.loop-place.bodies (part_of c.args.until c.args.at.now) c.loop-place.part (c.args.at.now.place + 1) c.loop-place.place c.loop-place.invariant
    c.index-entries-place.result c.requires.stands c.requires.few lt c.index-entries-place.is inside
    c.take.new.self c.take.new.bodies c.take.new.observer c.take.new.steps c.in_ok-take.ensures.part c.in_ok-take.ensures.lives c.in_ok-take.ensures.ok c.in_ok-take.ensures.paid (cpu_at 0)

pub returns-clause-ok : goal.returns-clause-ok
returns-clause-ok g c own stands =
    let past : part_len (drop (c.args.at.now.place + 1) c.args.entries.now) + (c.args.at.now.place + 1) ≤ c.loop-place.place = omega (arith, c.part_end-place-end.ensures.end) in
    let standing = (c.loop-place.invariant.runs own stands).reaches.stands in
    on_ok_weaker c.settle.result
    (part-ends _ c.args.observer.now c.loop-place.observer c.args.steps.now c.loop-place.steps c.args.entries.now c.args.bodies.now c.loop-place.bodies (part_of c.args.until c.args.at.now) c.loop-place.part (c.args.at.now.place + 1) c.loop-place.place c.loop-place.invariant past c.settle.new.bodies c.settle.new.observer c.settle.new.steps own stands)
    (c.settle.ensures.ok (c.loop-place.invariant.runs own stands).reaches.own' standing)

pub returns-clause-err : goal.returns-clause-err
returns-clause-err g c own stands =
    let past : part_len (drop (c.args.at.now.place + 1) c.args.entries.now) + (c.args.at.now.place + 1) ≤ c.loop-place.place = omega (arith, c.part_end-place-end.ensures.end) in
    let standing = (c.loop-place.invariant.runs own stands).reaches.stands in
    IfErr-weaker c.settle.result (Explains (alone.plains (slice_of c.loop-place.part.turn) 0 c.loop-place.part.owed (c.loop-place.invariant.runs own stands).reaches.own')) (Explains (part_made (part_of c.args.until c.args.at.now) (drop (c.args.at.now.place + 1) c.args.entries.now) own))
    (part-end-fails _ c.args.observer.now c.loop-place.observer c.args.steps.now c.loop-place.steps c.args.entries.now c.args.bodies.now c.loop-place.bodies (part_of c.args.until c.args.at.now) c.loop-place.part (c.args.at.now.place + 1) c.loop-place.place c.loop-place.invariant past own stands)
    (c.settle.ensures.err (c.loop-place.invariant.runs own stands).reaches.own' standing)

use Rattle.std.proofs.Common.{Option, IfSome, ap, refl, sym, subst, set, Some}
use Rattle.parts_model.specs.Signals.{Signals, due_signal, without}
use Rattle.guest_bodies.specs.Follows.{Rewatches}
use Rattle.guest_bodies.specs.Kept.{view_of, watch_of, shown_all}
use Rattle.guest_bodies.proofs.InPlace.{place, in_place-kept, in_place-rewatches, in_place-signals}
use Rattle.guest_bodies.proofs.Changes.{live-there}
use Rattle.guest_bodies.proofs.bodies.Bodies.drop_due.Goals as goal

pub at_mut-requires : goal.at_mut-requires
at_mut-requires c = live-there c.args.self.now c.self.inside.guests c.self.inside.memories c.args.pid c.self.view_is c.requires.live

pub invariant_of-self : goal.invariant_of-self
invariant_of-self c =
    let at = place c.args.self.now c.self.inside.guests c.self.inside.memories c.args.pid c.at_mut.result.now (record c.at_mut.result.now { signals = c.drop_due.new.self }) c.self.view_is c.self.invariant.sound c.at_mut.ensures.value in
    in_place-kept at refl refl c.self.invariant

pub returns : goal.returns
returns c =
    let at = place c.args.self.now c.self.inside.guests c.self.inside.memories c.args.pid c.at_mut.result.now (record c.at_mut.result.now { signals = c.drop_due.new.self }) c.self.view_is c.self.invariant.sound c.at_mut.ensures.value in
    subst (λ (o : Option Signals). IfSome o (λ s. Rewatches c.args.pid (λ w. record w { pending = without w.pending (due_signal s) }) c.args.self.now (shown_all (set c.self.inside.guests c.args.pid (Some (record c.at_mut.result.now { signals = c.drop_due.new.self }))) c.self.inside.memories))) (sym (in_place-signals at))
    (in_place-rewatches at (λ w. record w { pending = without w.pending (due_signal c.at_mut.result.now.signals) })
    (ap (λ (s : Signals). watch_of (record c.at_mut.result.now { signals = s })) c.drop_due.ensures)
    (ap (λ (s : Signals). view_of c.self.inside.memories (record c.at_mut.result.now { signals = s })) c.drop_due.ensures))

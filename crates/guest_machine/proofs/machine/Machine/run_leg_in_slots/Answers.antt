use Rattle.guest_legs.specs.Legs.{fresh}
use Rattle.guest_machine.proofs.InSlotsLemmas.{err-follows, ok-follows}
use Rattle.guest_machine.proofs.SeenLemmas.{leg-stays}
use Rattle.guest_machine.proofs.machine.Machine.run_leg_in_slots.Goals as goal

pub returns-clause-leg : goal.returns-clause-leg
returns-clause-leg g c =
    let n = c.run_leg_from.new in
    ok-follows _ g.V.Device (λ s. s.devices.now.items) (λ s asked answer s' p. p.0) c.turns_have_parts.ensures c.run_leg_from.result (λ m. fresh m c.args.budget) c.args.self.now n.self (g.C.Chooser.choices c.args.chooser.now) (g.C.Chooser.choices n.chooser)
    c.args.slots.now n.answers c.args.out.now.items n.out.items c.args.steps.now n.steps c.run_leg_from.ensures.leg

pub returns-clause-cut : goal.returns-clause-cut
returns-clause-cut g c =
    let n = c.run_leg_from.new in
    err-follows _ g.V.Device (λ s. s.devices.now.items) (λ s asked answer s' p. p.0) c.turns_have_parts.ensures c.run_leg_from.result (λ m. fresh m c.args.budget) c.args.self.now n.self (g.C.Chooser.choices c.args.chooser.now) (g.C.Chooser.choices n.chooser)
    c.args.slots.now n.answers c.args.out.now.items n.out.items c.args.steps.now n.steps c.run_leg_from.ensures.cut

pub returns-clause-slots : goal.returns-clause-slots
returns-clause-slots g c =
    let n = c.run_leg_from.new in
    leg-stays _ (λ s. s.devices.ghost_name) (λ s asked answer s' p. p.1) c.run_leg_from.result (λ m. fresh m c.args.budget) c.args.self.now n.self (g.C.Chooser.choices c.args.chooser.now) (g.C.Chooser.choices n.chooser)
    c.args.slots.now n.answers c.args.out.now.items n.out.items c.args.steps.now n.steps c.is_real.ensures c.run_leg_from.ensures.leg c.run_leg_from.ensures.cut

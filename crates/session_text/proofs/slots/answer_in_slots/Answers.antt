use Rattle.std.proofs.Common.{refl}
use Rattle.guest_devices.specs.Slots.{is_filled}
use Rattle.session_runs.specs.Points.{around}
use Rattle.session_commands.specs.Given.{given}
use Rattle.session_text.specs.Begun.{slots_answer}
use Rattle.session_text.specs.Leaves.{scene_of}
use Rattle.session_text.proofs.SlotLemmas.{Leaves-seen, Touched-stays}
use Rattle.session_text.proofs.slots.answer_in_slots.Goals as goal

pub returns-clause-leaves : goal.returns-clause-leaves
returns-clause-leaves g c =
    let o = c.args.outside.now in
    let n = c.answer_lent.new in
    Leaves-seen c.args.slots.now _ (slots_answer g.V.Device) (λ s. s.devices.now.items) (λ s asked answer s' p. p.0) (λ n s s' p. p.0) g.D.Disk (given g.Q.Questions.told (is_filled c.args.slots.now.devices.now.items)) c.args.store.entries c.answer_lent.result
    (scene_of g.S.Source g.K.Sink c.args.source.now o.sink.now o.disk.now (around (g.C.Chooser.choices o.chooser.now) c.args.slots.now o.steps.now))
    (scene_of g.S.Source g.K.Sink n.source n.outside.sink.now n.outside.disk.now (around (g.C.Chooser.choices n.outside.chooser.now) n.answers n.outside.steps.now)) (λ s n. refl) c.answer_lent.ensures.leaves

pub returns-clause-slots : goal.returns-clause-slots
returns-clause-slots g c =
    Touched-stays c.args.slots.now _ (λ s. s.devices.ghost_name) (λ s asked answer s' p. p.1) (λ n s s' p. p.1) c.args.slots.now c.answer_lent.new.answers c.answer_lent.ensures.leaves.touched.were

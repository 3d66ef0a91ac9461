use Rattle.std.proofs.Common.{List, ap, refl, sym, ◌∙◌}
use Rattle.arn_base.specs.Window.{Window, with_bytes}
use Rattle.acts_model.specs.Views.{with_reach}
use Rattle.guest_bodies.specs.Kept.{view_of}
use Rattle.guest_bodies.proofs.Many.{reach-back}
use Rattle.guest_bodies.proofs.Keyed.{Alone, Lent, after_alone, alone-first-reach, alone-last-reach, alone-refilled, back-refilled, first-reach, last-reach}
use Rattle.guest_bodies.proofs.memories.Memories.write.Goals.{After-self-1, After-take_back}
use Rattle.guest_bodies.proofs.memories.Memories.write.Goals as goal

lent : (c : After-take_back) → Lent c.args.self.now c.lend-memory.new.self c.take_back.new.self c.args.guest.now c.in-Some.segment c.lend-memory.result c.write.new.self
lent c = record { there = c.requires.there; held = c.in-Some.is; space = c.lend-memory.ensures.space; segment = c.lend-memory.ensures.segment; lends = c.lend-memory.ensures.tables; takes = c.take_back.ensures }

alone : (c : After-self-1) → Alone c.self.inside.windows c.self.inside.segments c.args.self.now c.args.guest.now c.at_mut.result.now c.write_alone.new.space
alone c = record { is = c.self.view_is; there = c.requires.there; none = c.in-None.is; found = c.at_mut.ensures.value }

pub returns-in-Some-clause-tables : goal.returns-in-Some-clause-tables
returns-in-Some-clause-tables c = back-refilled (lent c)

pub returns-in-Some-clause-written : goal.returns-in-Some-clause-written
returns-in-Some-clause-written c =
    let guest = c.args.guest.now in
    reach-back c.args.self.now c.take_back.new.self guest guest refl
    ∙ ap (λ (ws : List Window). with_reach ws (view_of c.args.self.now guest))
    (last-reach (lent c) guest.cpu ∙ (c.write.ensures ∙ ap (λ (ws : List Window). with_bytes ws c.args.at c.args.bytes.now) (sym (first-reach (lent c)))))

pub returns-in-None-clause-tables : goal.returns-in-None-clause-tables
returns-in-None-clause-tables c = alone-refilled (alone c)

pub returns-in-None-clause-written : goal.returns-in-None-clause-written
returns-in-None-clause-written c =
    let guest = c.args.guest.now in
    reach-back c.args.self.now (after_alone c.self.inside.windows c.self.inside.segments guest c.write_alone.new.space) guest guest refl
    ∙ ap (λ (ws : List Window). with_reach ws (view_of c.args.self.now guest))
    (alone-last-reach (alone c) guest.cpu ∙ (c.write_alone.ensures ∙ ap (λ (ws : List Window). with_bytes ws c.args.at c.args.bytes.now) (sym (alone-first-reach (alone c)))))

use Rattle.guest_bodies.proofs.Counts.{OnStop-map}
use Rattle.guest_bodies.proofs.Keyed.{Lent, back-refilled, back-same}
use Rattle.guest_bodies.proofs.memories.Memories.step_lent.Goals.{After-take_back}
use Rattle.guest_bodies.proofs.memories.Memories.step_lent.Given.{Over}
use Rattle.guest_bodies.proofs.memories.Memories.step_lent.Goals as goal

lent : (g : Over) (c : After-take_back g) → Lent c.args.self.now c.lend-memory.new.self c.take_back.new.self c.args.guest.now c.args.segment c.lend-memory.result c.step-outcome.new.mem
lent g c = record { there = c.requires.there; held = c.requires.held; space = c.lend-memory.ensures.space; segment = c.lend-memory.ensures.segment; lends = c.lend-memory.ensures.tables; takes = c.take_back.ensures }

pub returns-clause-tables : goal.returns-clause-tables
returns-clause-tables g c = back-refilled (lent g c)

pub returns-clause-same : goal.returns-clause-same
returns-clause-same g c = OnStop-map c.step-outcome.result (λ same. back-same (lent g c) same) c.step-outcome.ensures.memory

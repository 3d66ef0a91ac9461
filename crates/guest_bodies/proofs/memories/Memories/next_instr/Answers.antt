use Rattle.std.proofs.Common.{List, refl, subst, sym}
use Rattle.arn_base.specs.Window.{Window}
use Rattle.rv64_core.specs.Prospect.{Foretells}
use Rattle.rv64_model.specs.Instruction.{instruction}
use Rattle.guest_bodies.proofs.Keyed.{Alone, Lent, alone-first-reach, back-same}
use Rattle.guest_bodies.proofs.memories.Memories.next_instr.Goals as goal

pub returns-in-Some-clause-same : goal.returns-in-Some-clause-same
returns-in-Some-clause-same g c =
    let at : Lent c.args.self.now c.lend-memory.new.self c.take_back.new.self c.args.guest.now c.in-Some.segment c.lend-memory.result c.lend-memory.result =
    record { there = c.requires; held = c.in-Some.is; space = c.lend-memory.ensures.space; segment = c.lend-memory.ensures.segment; lends = c.lend-memory.ensures.tables; takes = c.take_back.ensures } in
    back-same at refl

pub returns-in-None-clause-effect : goal.returns-in-None-clause-effect
returns-in-None-clause-effect g c =
    let at : Alone c.self.inside.windows c.self.inside.segments c.args.self.now c.args.guest.now c.at-space.result.now c.at-space.result.now =
    record { is = c.self.view_is; there = c.requires; none = c.in-None.is; found = c.at-space.ensures } in
    subst (λ (ws : List Window). Foretells c.next_instr.result c.args.guest.now.cpu (instruction c.args.guest.now.cpu ws)) (sym (alone-first-reach at)) c.next_instr.ensures.effect

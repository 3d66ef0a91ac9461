use Rattle.std.proofs.Common.{List, subst, sym}
use Rattle.arn_base.specs.Window.{Window}
use Rattle.acts_model.specs.Views.{reach}
use Rattle.rv64_core.specs.Outcome.{Tells}
use Rattle.rv64_model.specs.Instruction.{instruction}
use Rattle.guest_bodies.specs.Kept.{view_of}
use Rattle.guest_bodies.proofs.Counts.{OnStop-map}
use Rattle.guest_bodies.proofs.Keyed.{Alone, after_alone, alone-first-reach, alone-last-reach, alone-refilled, alone-same, lone}
use Rattle.guest_bodies.proofs.memories.Memories.step.Goals.{After-self-1}
use Rattle.guest_bodies.proofs.memories.Memories.step.Given.{Over}
use Rattle.guest_bodies.proofs.memories.Memories.step.Goals as goal

alone : (g : Over) (c : After-self-1 g) → Alone c.self.inside.windows c.self.inside.segments c.args.self.now c.args.guest.now c.at_mut-space.result.now c.step.new.mem
alone g c = record { is = c.self.view_is; there = c.requires; none = c.in-None.is; found = c.at_mut-space.ensures.value }

pub returns-in-None-clause-effect : goal.returns-in-None-clause-effect
returns-in-None-clause-effect g c =
    let at = alone g c in
    subst (λ (ws : List Window). Tells c.step.result (instruction c.args.guest.now.cpu ws) c.step.new.cpu (reach (view_of (after_alone c.self.inside.windows c.self.inside.segments c.args.guest.now c.step.new.mem) (record c.args.guest.now { cpu = c.step.new.cpu })))) (sym (alone-first-reach at))
    (subst (λ (ws : List Window). Tells c.step.result (instruction c.args.guest.now.cpu (lone c.at_mut-space.result.now)) c.step.new.cpu ws) (sym (alone-last-reach at c.step.new.cpu)) c.step.ensures.effect)

pub returns-in-None-clause-tables : goal.returns-in-None-clause-tables
returns-in-None-clause-tables g c = alone-refilled (alone g c)

pub returns-in-None-clause-same : goal.returns-in-None-clause-same
returns-in-None-clause-same g c = OnStop-map c.step.result (λ same. alone-same (alone g c) same) c.step.ensures.memory

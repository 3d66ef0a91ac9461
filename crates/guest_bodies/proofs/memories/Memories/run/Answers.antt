use Rattle.std.proofs.Common.{List, subst, sym}
use Rattle.arn_base.specs.Window.{Window}
use Rattle.rv64_model.specs.Instruction.{instruction}
use Rattle.guest_bodies.specs.Kept.{Contents, contents_of, windows_for, windows_of}
use Rattle.guest_bodies.specs.Running.{LeadsMany, StopsAt}
use Rattle.guest_bodies.proofs.Keyed.{Alone, Lent, after_alone, alone-first, alone-is, alone-last, alone-last-reach, alone-refilled, at-hand-is, back-refilled, contents_alone, contents_at_hand, first-contents, last-contents, last-reach, leads-as, lone}
use Rattle.guest_bodies.proofs.memories.Memories.run.Goals.{After-self-1, After-take_back}
use Rattle.guest_bodies.proofs.memories.Memories.run.Given.{Over}
use Rattle.guest_bodies.proofs.memories.Memories.run.Goals as goal

lent : (g : Over) (c : After-take_back g) → Lent c.args.self.now c.lend-memory.new.self c.take_back.new.self c.args.guest.now c.in-Some.segment c.lend-memory.result c.run-stood.new.memory
lent g c = record { there = c.requires; held = c.in-Some.is; space = c.lend-memory.ensures.space; segment = c.lend-memory.ensures.segment; lends = c.lend-memory.ensures.tables; takes = c.take_back.ensures }

alone : (g : Over) (c : After-self-1 g) → Alone c.self.inside.windows c.self.inside.segments c.args.self.now c.args.guest.now c.at_mut-space.result.now c.run.new.memory
alone g c = record { is = c.self.view_is; there = c.requires; none = c.in-None.is; found = c.at_mut-space.ensures.value }

pub returns-in-Some-clause-many : goal.returns-in-Some-clause-many
returns-in-Some-clause-many g c =
    let at = lent g c in
    let guest = c.args.guest.now in
    subst (λ (k : Contents). LeadsMany (windows_for guest.segment) c.run-stood.result.ran guest.cpu k c.run-stood.new.cpu (contents_of c.take_back.new.self guest)) (first-contents at)
    (subst (λ (k : Contents). LeadsMany (windows_for guest.segment) c.run-stood.result.ran guest.cpu (contents_at_hand c.lend-memory.result) c.run-stood.new.cpu k) (last-contents at)
    (leads-as windows_of (windows_for guest.segment) contents_at_hand (at-hand-is at) c.run-stood.result.ran guest.cpu c.lend-memory.result c.run-stood.new.cpu c.run-stood.new.memory c.run-stood.ensures.many))

pub returns-in-Some-clause-tables : goal.returns-in-Some-clause-tables
returns-in-Some-clause-tables g c = back-refilled (lent g c)

pub returns-in-Some-clause-stops : goal.returns-in-Some-clause-stops
returns-in-Some-clause-stops g c =
    subst (λ (ws : List Window). StopsAt c.run-stood.result.outcome c.run-stood.result.ran c.args.count (instruction c.run-stood.new.cpu ws)) (sym (last-reach (lent g c) c.run-stood.new.cpu)) c.run-stood.ensures.stops

pub returns-in-None-clause-many : goal.returns-in-None-clause-many
returns-in-None-clause-many g c =
    let at = alone g c in
    let guest = c.args.guest.now in
    subst (λ (k : Contents). LeadsMany (windows_for guest.segment) c.run.result.ran guest.cpu k c.run.new.cpu (contents_of (after_alone c.self.inside.windows c.self.inside.segments guest c.run.new.memory) guest)) (alone-first at)
    (subst (λ (k : Contents). LeadsMany (windows_for guest.segment) c.run.result.ran guest.cpu (contents_alone c.at_mut-space.result.now) c.run.new.cpu k) (alone-last at)
    (leads-as lone (windows_for guest.segment) contents_alone (alone-is at) c.run.result.ran guest.cpu c.at_mut-space.result.now c.run.new.cpu c.run.new.memory c.run.ensures.many))

pub returns-in-None-clause-tables : goal.returns-in-None-clause-tables
returns-in-None-clause-tables g c = alone-refilled (alone g c)

pub returns-in-None-clause-stops : goal.returns-in-None-clause-stops
returns-in-None-clause-stops g c =
    subst (λ (ws : List Window). StopsAt c.run.result.outcome c.run.result.ran c.args.count (instruction c.run.new.cpu ws)) (sym (alone-last-reach (alone g c) c.run.new.cpu)) c.run.ensures.stops

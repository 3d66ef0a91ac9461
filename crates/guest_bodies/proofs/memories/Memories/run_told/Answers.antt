use Rattle.std.proofs.Common.{◌<◌, ℕ, List, subst, sym}
use Rattle.std.proofs.lemmas.Result.{IfOk-weaker, on_err_weaker}
use Rattle.arn_base.specs.Window.{Window}
use Rattle.rv64_model.specs.Instruction.{instruction}
use Rattle.guest_bodies.specs.Kept.{Contents, contents_of, windows_for, windows_of}
use Rattle.guest_bodies.specs.Led.{LedFails, LedMany}
use Rattle.guest_bodies.specs.Told.{IsStop}
use Rattle.guest_bodies.proofs.Keyed.{Alone, Lent, after_alone, alone-first, alone-is, alone-last, alone-last-reach, alone-refilled, at-hand-is, back-refilled, contents_alone, contents_at_hand, fails-as, first-contents, last-contents, last-reach, led-as, lone}
use Rattle.guest_bodies.proofs.memories.Memories.run_told.Goals.{After-self-1, After-take_back}
use Rattle.guest_bodies.proofs.memories.Memories.run_told.Given.{Over}
use Rattle.guest_bodies.proofs.memories.Memories.run_told.Goals as goal

lent : (g : Over) (c : After-take_back g) → Lent c.args.self.now c.lend-memory.new.self c.take_back.new.self c.args.guest.now c.in-Some.segment c.lend-memory.result c.run_told-ran.new.memory
lent g c = record { there = c.requires; held = c.in-Some.is; space = c.lend-memory.ensures.space; segment = c.lend-memory.ensures.segment; lends = c.lend-memory.ensures.tables; takes = c.take_back.ensures }

alone : (g : Over) (c : After-self-1 g) → Alone c.self.inside.windows c.self.inside.segments c.args.self.now c.args.guest.now c.at_mut-space.result.now c.run_told.new.memory
alone g c = record { is = c.self.view_is; there = c.requires; none = c.in-None.is; found = c.at_mut-space.ensures.value }

pub returns-in-Some-clause-told : goal.returns-in-Some-clause-told
returns-in-Some-clause-told g c =
    let at = lent g c in
    let guest = c.args.guest.now in
    let runs = g.O.Observer.runs in
    IfOk-weaker c.run_told-ran.result _ _
    (λ (n : ℕ) led. subst (λ (k : Contents). LedMany (windows_for guest.segment) runs c.args.stretch.pid n guest.cpu k c.args.observer.now c.run_told-ran.new.cpu (contents_of c.take_back.new.self guest) c.run_told-ran.new.observer) (first-contents at)
    (subst (λ (k : Contents). LedMany (windows_for guest.segment) runs c.args.stretch.pid n guest.cpu (contents_at_hand c.lend-memory.result) c.args.observer.now c.run_told-ran.new.cpu k c.run_told-ran.new.observer) (last-contents at)
    (led-as runs c.args.stretch.pid windows_of (windows_for guest.segment) contents_at_hand (at-hand-is at) n guest.cpu c.lend-memory.result c.args.observer.now c.run_told-ran.new.cpu c.run_told-ran.new.memory c.run_told-ran.new.observer led)))
    c.run_told-ran.ensures.told

pub returns-in-Some-clause-tables : goal.returns-in-Some-clause-tables
returns-in-Some-clause-tables g c = back-refilled (lent g c)

pub returns-in-Some-clause-stops : goal.returns-in-Some-clause-stops
returns-in-Some-clause-stops g c =
    IfOk-weaker c.run_told-ran.result _ _
    (λ (n : ℕ) stops (less : n < c.args.stretch.count). subst (λ (ws : List Window). IsStop (instruction c.run_told-ran.new.cpu ws)) (sym (last-reach (lent g c) c.run_told-ran.new.cpu)) (stops less))
    c.run_told-ran.ensures.stops

pub returns-in-Some-clause-failed : goal.returns-in-Some-clause-failed
returns-in-Some-clause-failed g c =
    let at = lent g c in
    let guest = c.args.guest.now in
    let runs = g.O.Observer.runs in
    on_err_weaker c.run_told-ran.result
    (λ fails. subst (λ (k : Contents). LedFails (windows_for guest.segment) runs c.args.stretch.pid c.args.stretch.count guest.cpu k c.args.observer.now c.run_told-ran.new.cpu (contents_of c.take_back.new.self guest) c.args.steps.now c.run_told-ran.new.steps) (first-contents at)
    (subst (λ (k : Contents). LedFails (windows_for guest.segment) runs c.args.stretch.pid c.args.stretch.count guest.cpu (contents_at_hand c.lend-memory.result) c.args.observer.now c.run_told-ran.new.cpu k c.args.steps.now c.run_told-ran.new.steps) (last-contents at)
    (fails-as runs c.args.stretch.pid windows_of (windows_for guest.segment) contents_at_hand (at-hand-is at) c.args.stretch.count guest.cpu c.lend-memory.result c.args.observer.now c.run_told-ran.new.cpu c.run_told-ran.new.memory c.args.steps.now c.run_told-ran.new.steps fails)))
    c.run_told-ran.ensures.failed

pub returns-in-None-clause-told : goal.returns-in-None-clause-told
returns-in-None-clause-told g c =
    let at = alone g c in
    let guest = c.args.guest.now in
    let runs = g.O.Observer.runs in
    IfOk-weaker c.run_told.result _ _
    (λ (n : ℕ) led. subst (λ (k : Contents). LedMany (windows_for guest.segment) runs c.args.stretch.pid n guest.cpu k c.args.observer.now c.run_told.new.cpu (contents_of (after_alone c.self.inside.windows c.self.inside.segments guest c.run_told.new.memory) guest) c.run_told.new.observer) (alone-first at)
    (subst (λ (k : Contents). LedMany (windows_for guest.segment) runs c.args.stretch.pid n guest.cpu (contents_alone c.at_mut-space.result.now) c.args.observer.now c.run_told.new.cpu k c.run_told.new.observer) (alone-last at)
    (led-as runs c.args.stretch.pid lone (windows_for guest.segment) contents_alone (alone-is at) n guest.cpu c.at_mut-space.result.now c.args.observer.now c.run_told.new.cpu c.run_told.new.memory c.run_told.new.observer led)))
    c.run_told.ensures.told

pub returns-in-None-clause-tables : goal.returns-in-None-clause-tables
returns-in-None-clause-tables g c = alone-refilled (alone g c)

pub returns-in-None-clause-stops : goal.returns-in-None-clause-stops
returns-in-None-clause-stops g c =
    IfOk-weaker c.run_told.result _ _
    (λ (n : ℕ) stops (less : n < c.args.stretch.count). subst (λ (ws : List Window). IsStop (instruction c.run_told.new.cpu ws)) (sym (alone-last-reach (alone g c) c.run_told.new.cpu)) (stops less))
    c.run_told.ensures.stops

pub returns-in-None-clause-failed : goal.returns-in-None-clause-failed
returns-in-None-clause-failed g c =
    let at = alone g c in
    let guest = c.args.guest.now in
    let runs = g.O.Observer.runs in
    on_err_weaker c.run_told.result
    (λ fails. subst (λ (k : Contents). LedFails (windows_for guest.segment) runs c.args.stretch.pid c.args.stretch.count guest.cpu k c.args.observer.now c.run_told.new.cpu (contents_of (after_alone c.self.inside.windows c.self.inside.segments guest c.run_told.new.memory) guest) c.args.steps.now c.run_told.new.steps) (alone-first at)
    (subst (λ (k : Contents). LedFails (windows_for guest.segment) runs c.args.stretch.pid c.args.stretch.count guest.cpu (contents_alone c.at_mut-space.result.now) c.args.observer.now c.run_told.new.cpu k c.args.steps.now c.run_told.new.steps) (alone-last at)
    (fails-as runs c.args.stretch.pid lone (windows_for guest.segment) contents_alone (alone-is at) c.args.stretch.count guest.cpu c.at_mut-space.result.now c.args.observer.now c.run_told.new.cpu c.run_told.new.memory c.args.steps.now c.run_told.new.steps fails)))
    c.run_told.ensures.failed

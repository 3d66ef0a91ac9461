use Rattle.std.proofs.Common.{◌≡◌, ◌+◌, ◌∙◌, ℕ, List, drop, length, min, length-drop, ap, sym, arith}
use Rattle.std.proofs.Math.Nat.{min-eq_left}
use Rattle.parts_model.specs.declared.tagged.TaggedByte.{TaggedByte}
use Rattle.parts_model.specs.Pipes.{Pipe, with_taken}
use Rattle.guest_pipes.specs.Runs.{places_of, tagged}
use Rattle.guest_pipes.proofs.Queues.{AreRuns-whole, gone-few, gone-within, length-queue, queue-taken}
use Rattle.guest_pipes.proofs.pipe.Pipe.remove.Goals as goal

pub overflow_add-self : goal.overflow_add-self
overflow_add-self c =
    let queued = length-queue c.self.inside.taken c.self.inside.head c.self.inside.gone c.self.inside.held.items c.self.inside.runs.items c.self.invariant in
    omega (arith, queued, ap (λ (p : Pipe). length p.channel.queue) c.self.view_is, c.requires, c.self.invariant.within, c.self.inside.held.small)

pub overflow_add-self-2 : goal.overflow_add-self-2
overflow_add-self-2 c =
    let queued = length-queue c.self.inside.taken c.self.inside.head c.self.inside.gone c.self.inside.held.items c.self.inside.runs.items c.self.invariant in
    omega (arith, queued, ap (λ (p : Pipe). length p.channel.queue) c.self.view_is, c.requires, c.self.invariant.counted)

pub overflow_cast-count : goal.overflow_cast-count
overflow_cast-count c =
    let queued = length-queue c.self.inside.taken c.self.inside.head c.self.inside.gone c.self.inside.held.items c.self.inside.runs.items c.self.invariant in
    omega (arith, queued, ap (λ (p : Pipe). length p.channel.queue) c.self.view_is, c.requires, c.self.invariant.few)

pub overflow_add-self-inside : goal.overflow_add-self-inside
overflow_add-self-inside c =
    let queued = length-queue c.self.inside.taken c.self.inside.head c.self.inside.gone c.self.inside.held.items c.self.inside.runs.items c.self.invariant in
    let kept = ap (λ (p : Pipe). length p.channel.queue) c.self.view_is in
    omega (arith, queued, kept, gone-few c.self.inside.gone c.self.inside.runs.items c.self.invariant.are_runs, c.requires, c.self.invariant.few)

pub drop_gone-self-inside-requires-clause-runs : goal.drop_gone-self-inside-requires-clause-runs
drop_gone-self-inside-requires-clause-runs c = AreRuns-whole c.self.inside.gone c.self.inside.runs.items c.self.invariant.are_runs

pub drop_gone-self-inside-requires-clause-within : goal.drop_gone-self-inside-requires-clause-within
drop_gone-self-inside-requires-clause-within c =
    let queued = length-queue c.self.inside.taken c.self.inside.head c.self.inside.gone c.self.inside.held.items c.self.inside.runs.items c.self.invariant in
    let kept = ap (λ (p : Pipe). length p.channel.queue) c.self.view_is in
    let within = gone-within c.self.inside.gone c.self.inside.runs.items c.self.invariant.are_runs in
    omega (arith, queued, kept, within, length-drop c.self.inside.gone (places_of c.self.inside.runs.items), c.requires, c.self.invariant.placed)

pub invariant_of-self : goal.invariant_of-self
invariant_of-self c =
    let places = places_of c.self.inside.runs.items in
    let queued = length-queue c.self.inside.taken c.self.inside.head c.self.inside.gone c.self.inside.held.items c.self.inside.runs.items c.self.invariant in
    let kept = ap (λ (p : Pipe). length p.channel.queue) c.self.view_is in
    let now = ap length c.drop_gone-self-inside.ensures.places ∙ length-drop (c.self.inside.gone + c.args.count) places in
    record {
      within = omega (arith, queued, kept, c.requires, c.self.invariant.within);
      few = omega (arith, c.self.invariant.few);
      counted = omega (arith, queued, kept, c.requires, c.self.invariant.counted);
      are_runs = c.drop_gone-self-inside.ensures.runs;
      placed = omega (arith, now, length-drop c.self.inside.gone places, c.self.invariant.placed);
    }

pub returns : goal.returns
returns c =
    let places = places_of c.self.inside.runs.items in
    let old : List TaggedByte = tagged (drop c.self.inside.head c.self.inside.held.items) (drop c.self.inside.gone places) in
    let all : min c.args.count (length old) ≡ c.args.count = min-eq_left (omega (arith, ap (λ (p : Pipe). length p.channel.queue) c.self.view_is, c.requires)) in
    let queue = queue-taken c.args.count c.self.inside.head c.self.inside.gone c.drop_gone-self-inside.result c.self.inside.held.items places (places_of c.drop_gone-self-inside.new.runs.items) c.drop_gone-self-inside.ensures.places in
    let pipe : ℕ → List TaggedByte → Pipe =
    λ n held. record { channel = record { taken = c.self.inside.taken + n; queue = held }; has_reader = c.self.inside.has_reader; has_writer = c.self.inside.has_writer } in
    ap (pipe c.args.count) queue ∙ ap (λ (n : ℕ). pipe n (drop n old)) (sym all) ∙ ap (λ (p : Pipe). with_taken p c.args.count) c.self.view_is

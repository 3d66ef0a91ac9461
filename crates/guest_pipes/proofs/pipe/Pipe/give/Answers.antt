use Rattle.std.proofs.Common.{◌≡◌, ◌-◌, ◌+◌, ◌≤◌, ◌∙◌, ℕ, List, drop, take, length, length-drop, ap, sym, arith}
use Rattle.parts_model.specs.Channel.{front}
use Rattle.parts_model.specs.Tagged.{given}
use Rattle.parts_model.specs.Pipes.{Pipe}
use Rattle.guest_pipes.specs.Runs.{places_of}
use Rattle.guest_pipes.proofs.Queues.{given-tagged, length-queue}
use Rattle.guest_pipes.proofs.pipe.Pipe.give.Goals as goal

pub overflow_add-front : goal.overflow_add-front
overflow_add-front c =
    let queued = length-queue c.self.inside.taken c.self.inside.head c.self.inside.gone c.self.inside.held.items c.self.inside.runs.items c.self.invariant in
    omega (arith, queued, ap (λ (p : Pipe). length p.channel.queue) c.self.view_is, ap length c.deref.ensures.value, c.requires, c.self.invariant.within, c.deref.type_inv.0)

pub slice_bounds-front-end : goal.slice_bounds-front-end
slice_bounds-front-end c =
    let queued = length-queue c.self.inside.taken c.self.inside.head c.self.inside.gone c.self.inside.held.items c.self.inside.runs.items c.self.invariant in
    let kept = ap (λ (p : Pipe). length p.channel.queue) c.self.view_is in
    let within : c.self.inside.head + c.args.count ≤ length c.deref.result.now = omega (arith, queued, kept, ap length c.deref.ensures.value, c.requires, c.self.invariant.within) in
    within

pub returns-clause-given : goal.returns-clause-given
returns-clause-given c =
    let items = c.self.inside.held.items in
    let same = c.self.invariant.placed ∙ sym (length-drop c.self.inside.head items) in
    let count : c.self.inside.head + c.args.count - c.self.inside.head ≡ c.args.count = omega arith in
    let bytes =
    c.in_ok-from_slice.ensures
    ∙ ap (λ (bs : List ℕ). take (c.self.inside.head + c.args.count - c.self.inside.head) (drop c.self.inside.head bs)) c.deref.ensures.value
    ∙ ap (λ (n : ℕ). take n (drop c.self.inside.head items)) count in
    given-tagged c.args.count (drop c.self.inside.head items) (drop c.self.inside.gone (places_of c.self.inside.runs.items)) (record { bytes = c.in_ok-from_slice.field-0; origins = c.in_ok-first_origins.field-0 }) same bytes c.in_ok-first_origins.ensures.origins
    ∙ ap (λ (p : Pipe). given (front p.channel c.args.count)) c.self.view_is

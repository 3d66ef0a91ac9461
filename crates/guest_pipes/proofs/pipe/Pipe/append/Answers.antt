use Rattle.std.proofs.Common.{◌≡◌, ◌+◌, ◌++◌, ◌∙◌, ℕ, List, drop, take, length, ap, sym, arith, take_all}
use Rattle.parts_model.specs.declared.tagged.TaggedByte.{TaggedByte}
use Rattle.parts_model.specs.Pipes.{Pipe, room, with_put}
use Rattle.parts_model.specs.Tagged.{held_bytes}
use Rattle.guest_pipes.specs.declared.runs.Run.{Run}
use Rattle.guest_pipes.specs.Runs.{places_of, tagged}
use Rattle.guest_pipes.proofs.Queues.{gone-within, length-queue, pushed, queue-more, queue-put, some-bytes}
use Rattle.guest_pipes.proofs.pipe.Pipe.append.Goals as goal

pub invariant_of-self-2 : goal.invariant_of-self-2
invariant_of-self-2 c =
    let items = c.self.inside.held.items in
    let run : Run = record { event = c.args.event; len = length c.args.bytes.now } in
    let runs = pushed c.self.inside.runs.items c.reserve.new.self.items c.push_back_reserved.new.self.items run c.in_ok-reserve.ensures.items c.push_back_reserved.ensures.items in
    let queued = length-queue c.self.inside.taken c.self.inside.head c.self.inside.gone items c.self.inside.runs.items c.self.invariant in
    let kept = ap (λ (p : Pipe). length p.channel.queue) (c.self.view_is ∙ c.forget_taken.ensures) in
    let seen = ap (λ (p : Pipe). p.channel.taken + length p.channel.queue) (c.self.view_is ∙ c.forget_taken.ensures) in
    let fits = c.requires in
    let counts = c.uncounted.ensures in
    let uncounted = c.if-bytes-uncounted.false in
    rw (c.in_ok-extend_from_slice.ensures.items, runs) (queue-more c.self.inside.taken c.self.inside.head c.self.inside.gone c.args.event items c.args.bytes.now c.self.inside.runs.items c.self.invariant (some-bytes c.args.bytes.now c.if-is_empty.ensures) (omega (arith, queued, kept, fits)) (omega (arith, queued, seen, counts, uncounted)))

pub returns-clause-put : goal.returns-clause-put
returns-clause-put c =
    let items = c.self.inside.held.items in
    let bytes : List ℕ = c.args.bytes.now in
    let same = c.self.view_is ∙ c.forget_taken.ensures in
    let run : Run = record { event = c.args.event; len = length bytes } in
    let runs = pushed c.self.inside.runs.items c.reserve.new.self.items c.push_back_reserved.new.self.items run c.in_ok-reserve.ensures.items c.push_back_reserved.ensures.items in
    let old : List TaggedByte = tagged (drop c.self.inside.head items) (drop c.self.inside.gone (places_of c.self.inside.runs.items)) in
    let pipe : List TaggedByte → Pipe =
    λ held. record { channel = record { taken = c.self.inside.taken; queue = held }; has_reader = c.self.inside.has_reader; has_writer = c.self.inside.has_writer } in
    let all : take (room (pipe old)) bytes ≡ bytes = take_all (room (pipe old)) bytes (omega (arith, ap (λ (p : Pipe). room p) same, c.requires)) in
    ap (λ (held : List ℕ). pipe (tagged (drop c.self.inside.head held) (drop c.self.inside.gone (places_of c.push_back_reserved.new.self.items)))) c.in_ok-extend_from_slice.ensures.items
    ∙ ap (λ (rs : List Run). pipe (tagged (drop c.self.inside.head (items ++ bytes)) (drop c.self.inside.gone (places_of rs)))) runs
    ∙ ap pipe (queue-put c.self.inside.head c.self.inside.gone c.args.event items bytes c.self.inside.runs.items c.self.invariant.within (gone-within c.self.inside.gone c.self.inside.runs.items c.self.invariant.are_runs) c.self.invariant.placed)
    ∙ ap (λ (bs : List ℕ). pipe (old ++ held_bytes c.args.event bs)) (sym all)
    ∙ ap (λ (p : Pipe). with_put p bytes c.args.event) same

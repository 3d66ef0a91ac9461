use Rattle.std.proofs.Common.{◌≡◌, ◌+◌, ◌-◌, List, length, ap, sym, ◌∙◌, length-append, length-drop}
use Rattle.parts_model.specs.Channel.{Channel}
use Rattle.parts_model.specs.declared.tagged.TaggedByte.{TaggedByte}
use Rattle.guest_resources.proofs.Queues.{length-held, longer-queue}
use Rattle.guest_resources.proofs.console.Console.put.Goals as goal

pub invariant_of-self-2 : goal.invariant_of-self-2
invariant_of-self-2 c =
    let old : List TaggedByte = c.self.inside.held.items in
    let queued : c.len.result ≡ length old - c.self.inside.head =
    c.len.ensures ∙ (ap (λ (q : Channel). length q.queue) (sym c.self.view_is) ∙ length-drop c.self.inside.head old) in
    let more : length c.extend_from_slice.new.self.items ≡ length old + length c.args.bytes.now =
    ap length c.in_ok-extend_from_slice.ensures.items
    ∙ (length-append old c.as_slice.result.now
    ∙ ap (λ n. length old + n) (ap length (c.as_slice.ensures.value ∙ c.in_ok-held.ensures) ∙ length-held c.args.event 0 c.args.bytes.now)) in
    longer-queue c.self.inside.taken c.self.inside.head (length old) (length c.args.bytes.now) _ c.len.result c.self.invariant queued more c.if-bytes-left.false

use Rattle.std.proofs.Common.{◌<◌, ap, map, refl, rules, subst}
use Rattle.asm_text.specs.Characters.{trimmed}
use Rattle.guest_asm.specs.Parted.{left}
use Rattle.guest_asm.proofs.Listing.{BytesLeft, bytes_left_more, bytes_left_stop, bytes_left_end}
use Rattle.guest_asm.proofs.splitting.are_bytes.Goals as goal

pub loop-part-init : goal.loop-part-init
loop-part-init c = λ numbers e. rw c.operands-parts.ensures (record { rest = numbers; is_rest = e; same = refl })

pub returns-in_default-byte : goal.returns-in_default-byte
returns-in_default-byte c = λ numbers e.
    bytes_left_stop (trimmed c.in-Some.part.now) (map trimmed (left c.next.new.self)) numbers
    (rw c.trimmed.ensures at c.in_default-byte.ensures.none)
    (subst (BytesLeft numbers) (ap (map trimmed) c.in-Some.ensures.some) (c.loop-part.invariant numbers e))

pub loop-part-preserved : goal.loop-part-preserved
loop-part-preserved c = λ numbers e.
    let b = c.in-Some-byte.field-0 in
    let fits : b < 256 = search rules in
    bytes_left_more (trimmed c.in-Some.part.now) (map trimmed (left c.next.new.self)) numbers b fits
    (rw c.trimmed.ensures at c.in-Some-byte.ensures.some)
    (subst (BytesLeft numbers) (ap (map trimmed) c.in-Some.ensures.some) (c.loop-part.invariant numbers e))

pub returns : goal.returns
returns c = λ numbers e. bytes_left_end numbers (subst (BytesLeft numbers) (ap (map trimmed) c.in_default.ensures.none) (c.loop-part.invariant numbers e))

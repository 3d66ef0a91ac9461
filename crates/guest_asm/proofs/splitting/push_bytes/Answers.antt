use Rattle.std.proofs.Common.{ap, map, subst}
use Rattle.asm_text.specs.Characters.{trimmed}
use Rattle.guest_asm.specs.Parted.{left}
use Rattle.guest_asm.proofs.Listing.{AreBytesLeft, BytesPushed, are_bytes_rest, bytes_pushed_more, bytes_pushed_end, some_byte, told_byte}
use Rattle.guest_asm.proofs.splitting.push_bytes.Goals as goal

pub unwrap-requires : goal.unwrap-requires
unwrap-requires c =
    some_byte (trimmed c.in-Some.part.now) (map trimmed (left c.next.new.self)) c.byte.result
    (rw c.trimmed.ensures at c.byte.ensures.none)
    (subst AreBytesLeft (ap (map trimmed) c.in-Some.ensures.some) c.loop-part.invariant.fits)

pub loop-part-preserved : goal.loop-part-preserved
loop-part-preserved c = record {
  fits =
      are_bytes_rest (trimmed c.in-Some.part.now) (map trimmed (left c.next.new.self))
      (subst AreBytesLeft (ap (map trimmed) c.in-Some.ensures.some) c.loop-part.invariant.fits);
  pushed = λ numbers e.
      bytes_pushed_more c.args.bytes.now c.loop-part.bytes c.push.new.self (trimmed c.in-Some.part.now) (map trimmed (left c.next.new.self)) numbers c.unwrap.result
      (told_byte (trimmed c.in-Some.part.now) c.byte.result c.unwrap.result c.unwrap.ensures (rw c.trimmed.ensures at c.byte.ensures.some))
      c.in_ok-push.ensures.ok
      (subst (BytesPushed c.args.bytes.now c.loop-part.bytes numbers) (ap (map trimmed) c.in-Some.ensures.some) (c.loop-part.invariant.pushed numbers e));
}

pub returns : goal.returns
returns c = λ numbers e.
    bytes_pushed_end c.args.bytes.now c.loop-part.bytes numbers
    (subst (BytesPushed c.args.bytes.now c.loop-part.bytes numbers) (ap (map trimmed) c.in_default.ensures.none) (c.loop-part.invariant.pushed numbers e))

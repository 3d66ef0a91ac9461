use Rattle.std.proofs.Common.{arith, ◌+◌, ◌*◌, ◌^◌, ◌-◌, ◌∙◌, sym}
use Rattle.asm_text.proofs.Digits.{digits_from-more, kept-more}
use Rattle.asm_text.proofs.numbers.digits.Goals as goal

pub loop-byte-preserved : goal.loop-byte-preserved
loop-byte-preserved c =
    let so_far = c.loop-byte.invariant in
    let digit = c.in_ok-digit.digit in (
      c.args.base * so_far.0 + digit,
      kept-more (2 ^ 64 - 1) c.args.base so_far.0 digit c.loop-byte.value c.saturating_mul.result c.saturating_add-value.result (omega (arith, c.requires.least)) so_far.1 (rw c.from.ensures at c.saturating_mul.ensures) (rw c.from-in-loop-byte.ensures at c.saturating_add-value.ensures),
      so_far.2 ∙ digits_from-more c.args.base so_far.0 digit c.loop-byte.byte-index c.args.text.now c.loop-byte-test.true (sym c.in_ok-digit.ensures),
    )

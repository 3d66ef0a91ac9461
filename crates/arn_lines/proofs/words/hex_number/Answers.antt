use Rattle.std.proofs.Common.{arith}
use Rattle.arn_lines.proofs.HexDigits.{IsHexNumber-digits, ReadSoFar-more, ReadSoFar-room, ReadSoFar-stops}
use Rattle.arn_lines.proofs.words.hex_number.Goals as goal

pub overflow_mul-number : goal.overflow_mul-number
overflow_mul-number c =
    omega (arith, ReadSoFar-room c.args.digits.now c.loop-digit.digit-index c.loop-digit.number (omega arith) c.loop-digit.invariant)

pub returns-in_err-hex_digit-clause-none : goal.returns-in_err-hex_digit-clause-none
returns-in_err-hex_digit-clause-none c =
    rw c.from_residual.ensures
    (λ n number. ReadSoFar-stops c.args.digits.now c.loop-digit.digit-index c.loop-digit.number (omega arith) c.in_err-hex_digit.ensures.none c.loop-digit.invariant n (IsHexNumber-digits c.args.digits.now n number).2)

pub overflow_add-number : goal.overflow_add-number
overflow_add-number c =
    omega (arith, ReadSoFar-room c.args.digits.now c.loop-digit.digit-index c.loop-digit.number (omega arith) c.loop-digit.invariant, c.in_ok-hex_digit.ensures.some.0)

pub loop-digit-preserved : goal.loop-digit-preserved
loop-digit-preserved c =
    ReadSoFar-more c.args.digits.now c.loop-digit.digit-index c.loop-digit.number c.from.result (omega arith) (rw c.from.ensures c.in_ok-hex_digit.ensures.some) c.loop-digit.invariant

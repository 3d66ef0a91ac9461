use Rattle.arn_lines.proofs.HexDigits.{ReadSoFar}
use Rattle.arn_lines.proofs.words.hex_number.Given as goal

abbrev pub invariant-loop-digit : goal.invariant-loop-digit
invariant-loop-digit l = ReadSoFar l.digits l.digit-index l.number

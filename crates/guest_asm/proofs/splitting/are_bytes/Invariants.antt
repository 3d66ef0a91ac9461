use Rattle.std.proofs.Common.{◌≡◌, List, Some, map, length, ℤ}
use Rattle.asm_text.specs.Characters.{trimmed}
use Rattle.guest_asm.specs.Parted.{left}
use Rattle.asm_text.specs.Statements.{numbers_of, operands}
use Rattle.guest_asm.proofs.Listing.{BytesLeft}
use Rattle.guest_asm.proofs.splitting.are_bytes.Given as goal

abbrev pub invariant-loop-part : goal.invariant-loop-part
invariant-loop-part l = (numbers : List ℤ) → numbers_of (operands l.text) ≡ Some numbers → BytesLeft numbers (map trimmed (left l.parts))

abbrev pub decreases-loop-part : goal.decreases-loop-part
decreases-loop-part l = length (left l.parts)

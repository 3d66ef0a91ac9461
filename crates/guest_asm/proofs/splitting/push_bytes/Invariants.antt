use Rattle.std.proofs.Common.{◌≡◌, List, Some, map, length, true, ℤ}
use Rattle.std.specs.List.{list_all}
use Rattle.asm_text.specs.Characters.{trimmed}
use Rattle.guest_asm.specs.Parted.{left}
use Rattle.asm_text.specs.Statements.{numbers_of, operands}
use Rattle.guest_asm.specs.Meanings.{is_byte}
use Rattle.guest_asm.proofs.Listing.{BytesPushed}
use Rattle.guest_asm.proofs.splitting.push_bytes.Given as goal

abbrev pub invariant-loop-part : goal.invariant-loop-part
invariant-loop-part l = record {
  fits : (numbers : List ℤ) × (numbers_of (map trimmed (left l.parts)) ≡ Some numbers) × (list_all is_byte numbers ≡ true);
  pushed : (numbers : List ℤ) → numbers_of (operands l.text) ≡ Some numbers → BytesPushed l.fn.bytes l.bytes numbers (map trimmed (left l.parts));
}

abbrev pub decreases-loop-part : goal.decreases-loop-part
decreases-loop-part l = length (left l.parts)

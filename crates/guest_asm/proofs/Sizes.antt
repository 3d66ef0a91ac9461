-- How many bytes a statement has, from what is kept of it.
use Rattle.std.proofs.lemmas.Bool.Decides.{nat_tests}
use Rattle.std.proofs.Common.{◌≡◌, ℕ, List, length, Bor, arith}
use Rattle.guest_asm.specs.Meanings.{size}
use Rattle.asm_text.specs.Seen.{Keeps}
use Rattle.asm_text.specs.Statements as says
use Rattle.asm_text.specs.Statements.{operands}
use Rattle.asm_text.specs.declared.statement.Statement.{Statement}
use Rattle.asm_text.specs.declared.statement.Statement.TheVariants as kept
use Rattle.guest_asm.proofs.Listing.{length_numbers}

pub size_bytes : (k : Statement) (text : Bor (List ℕ)) → k ≡ kept.Bytes text → (n : ℕ) → n ≡ length (operands text.now) → (s : says.Statement) → Keeps k s → n ≡ size s
size_bytes k text h1 n h2 s h3 = grind (arith, nat_tests, length_numbers)

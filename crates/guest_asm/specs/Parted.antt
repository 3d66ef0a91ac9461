-- A text that is taken apart from its front.
use Rattle.std.specs.Prelude.{◌≡◌, ℕ, ℤ, true, List, [], Option, Some, None}
use Rattle.std.specs.List.{list_all}
use Rattle.asm_text.specs.Characters.{parts}
use Rattle.guest_asm.specs.Meanings.{is_byte}
use Rattle.asm_text.specs.Statements.{numbers_of, operands}
use Rattle.guest_asm.specs.declared.splitting.Parts.{Parts}
use denote.Ref.{Bor}

-- the parts of what is left of a text, if anything is
abbrev pub left_of : Option (Bor (List ℕ)) → ℕ → List (List ℕ)
left_of None separator = []
left_of (Some rest) separator = parts separator rest.now

-- the parts that are left
abbrev pub left : Parts → List (List ℕ)
left p = left_of p.rest p.separator

-- the operands in a text spell bytes
abbrev pub AreBytes : List ℕ → Type 0
AreBytes text = (numbers : List ℤ) × (numbers_of (operands text) ≡ Some numbers) × (list_all is_byte numbers ≡ true)

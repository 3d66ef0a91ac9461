-- Statements that have words.
use Rattle.std.specs.Prelude.{◌≡◌, ℕ, true, ◌++◌, option_to_list, IfSome}
use Rattle.rv64_isa.specs.Valid.{IsInRange}
use Rattle.guest_asm.specs.Meanings.{has_fields, instructions, reaches}
use Rattle.asm_text.specs.Statements.{Statement, Plain}
use Rattle.guest_asm.specs.declared.encoding.Code.{Code}

-- an instruction that stands as it is has a word
abbrev pub HasWord : Statement → Type 0
HasWord (Plain i) = IsInRange i
HasWord s = Unit {0}

-- the numbers of a statement at an address, and the distance to its label, lie in their fields
pub record IsEncodable (s : Statement) (from to : ℕ) : Type 0 where
  pub fields : has_fields s ≡ true
  pub reached : reaches s from to ≡ true
  pub word : HasWord s

-- these are the instructions of a statement, and each has a word
pub record IsCodeOf (code : Code) (s : Statement) (from to : ℕ) : Type 0 where
  pub whole : instructions s from to ≡ option_to_list code.first ++ option_to_list code.second
  pub first : IfSome code.first IsInRange
  pub second : IfSome code.second IsInRange

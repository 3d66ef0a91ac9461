-- Statements without faults.
use Rattle.std.specs.Prelude.{◌≡◌, ℕ, true, List, unwrap_or}
use Rattle.std.specs.List.{AllByRecursion}
use Rattle.guest_asm.specs.Assembled.{Placed, address, places, target}
use Rattle.guest_asm.specs.Meanings.{has_fields, reaches}
use Rattle.asm_text.specs.Names.{Named}
use Rattle.asm_text.specs.Statements.{Statement, Says}

-- the numbers of a statement, and the distance to its label, lie in their fields
pub record IsFitting (s : Statement) (from to : ℕ) : Type 0 where
  pub fields : has_fields s ≡ true
  pub reached : reaches s from to ≡ true

-- what is said at a place fits there
abbrev pub IsSoundAt : List Named → Placed → Type 0
IsSoundAt named p = (s : Statement) → p.reading ≡ Says s → IsFitting s (address p) (unwrap_or (target named s) 0)

-- all that is said fits at its place
abbrev pub IsSound : List Placed → Type 0
IsSound all = AllByRecursion (IsSoundAt (places all)) all

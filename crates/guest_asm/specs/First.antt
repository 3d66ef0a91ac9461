-- The first kind of several faults.
use Rattle.std.specs.Prelude.{◌≡◌, ℕ, Result, Ok, Err, List, [], ◌∷◌, Option, Some, None}
use Rattle.guest_asm.specs.Assembled.{first_kind, taken}
use Rattle.asm_text.specs.Statements.{StatementReading}
use Rattle.asm_text.specs.declared.fault.AsmKind.{AsmKind}

-- the first of the kinds that there are
abbrev pub either : Option AsmKind → Option AsmKind → Option AsmKind
either None b = b
either (Some a) None = Some a
either (Some a) (Some b) = Some (first_kind a b)

-- the first of all kinds
abbrev pub first_of : List AsmKind → Option AsmKind
first_of [] = None
first_of (kind ∷ kinds) = either (Some kind) (first_of kinds)

-- a statement with these faults takes so many bytes, or this is its first fault
abbrev pub Takes : Result ℕ AsmKind → StatementReading → List AsmKind → Type 0
Takes (Ok n) r faults = (faults ≡ []) × (n ≡ taken [] r)
Takes (Err kind) r faults = first_of faults ≡ Some kind

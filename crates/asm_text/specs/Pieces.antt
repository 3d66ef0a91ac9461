-- The pieces that a text is cut into.
use Rattle.std.specs.Prelude.{◌≡◌, ◌≢◌, ℕ, List, ◌∷◌, ◌++◌, All, min, ◌^◌, ◌-◌, Option, Some, None, ℤ}
use denote.Ref.{Bor}
use Rattle.asm_text.specs.declared.statement.Number.{Number}
use Rattle.asm_text.specs.declared.statement.Statement.{Statement}
use Rattle.asm_text.specs.declared.operands.Offset.{Offset}
use Rattle.asm_text.specs.Statements as says
use Rattle.asm_text.specs.Statements.{with_label, with_number, with_offset, with_two}
use Rattle.asm_text.specs.Seen.{Keeps, Tells}

-- the first part ends at the first separator, and the rest stands behind that
pub record IsCut (separator : ℕ) (text first rest : List ℕ) : Type 0 where
  pub is_text : text ≡ first ++ separator ∷ rest
  pub no_separator : All (λ c. c ≢ separator) first

-- a magnitude is kept, or as one that no field can hold
abbrev pub KeepsMagnitude : Option ℕ → Option ℕ → Type 0
KeepsMagnitude None r = r ≡ None
KeepsMagnitude (Some kept) r = (n : ℕ) × (kept ≡ min n (2 ^ 64 - 1)) × (r ≡ Some n)

-- a number is kept, if there is one
abbrev pub KeepsNumber : Option Number → Option ℤ → Type 0
KeepsNumber None r = r ≡ None
KeepsNumber (Some kept) r = (n : ℤ) × Tells kept n × (r ≡ Some n)

-- a distance from a register is kept, if there is one
abbrev pub KeepsOffset : Option Offset → Option says.Offset → Type 0
KeepsOffset None r = r ≡ None
KeepsOffset (Some kept) r = (n : ℤ) × Tells kept.imm n × (r ≡ Some (record { imm = n; register = kept.register }))

-- a text is kept, if there is one
abbrev pub KeepsText : Option (Bor (List ℕ)) → Option (List ℕ) → Type 0
KeepsText None r = r ≡ None
KeepsText (Some kept) r = r ≡ Some kept.now

-- a statement is kept, if there is one
abbrev pub KeepsStatement : Option Statement → Option says.Statement → Type 0
KeepsStatement None r = r ≡ None
KeepsStatement (Some kept) r = (s : says.Statement) × Keeps kept s × (r ≡ Some s)

-- a register and a number, whatever statement they make
abbrev pub KeepsWithNumber : Option (ℕ × Number) → List (List ℕ) → Type 0
KeepsWithNumber None texts = (make : ℕ → ℤ → says.Statement) → with_number make texts ≡ None
KeepsWithNumber (Some kept) texts =
    (n : ℤ) × Tells kept.1 n × ((make : ℕ → ℤ → says.Statement) → with_number make texts ≡ Some (make kept.0 n))

-- a register and a label, whatever statement they make
abbrev pub KeepsWithLabel : Option (ℕ × Bor (List ℕ)) → List (List ℕ) → Type 0
KeepsWithLabel None texts = (make : ℕ → List ℕ → says.Statement) → with_label make texts ≡ None
KeepsWithLabel (Some kept) texts =
    (make : ℕ → List ℕ → says.Statement) → with_label make texts ≡ Some (make kept.0 kept.1.now)

-- a register and a distance from another, whatever statement they make
abbrev pub KeepsWithOffset : Option (ℕ × Offset) → List (List ℕ) → Type 0
KeepsWithOffset None texts = (make : ℕ → ℕ → ℤ → says.Statement) → with_offset make texts ≡ None
KeepsWithOffset (Some kept) texts =
    (n : ℤ) × Tells kept.1.imm n
    × ((make : ℕ → ℕ → ℤ → says.Statement) → with_offset make texts ≡ Some (make kept.0 kept.1.register n))

-- two registers, whatever statement they make
abbrev pub KeepsTwo : Option (ℕ × ℕ) → List ℕ → List ℕ → Type 0
KeepsTwo None a b = (make : ℕ → ℕ → says.Statement) → with_two make a b ≡ None
KeepsTwo (Some kept) a b = (make : ℕ → ℕ → says.Statement) → with_two make a b ≡ Some (make kept.0 kept.1)

-- What the code keeps of a statement.
use Rattle.std.specs.Prelude.{◌≡◌, ◌≤◌, ◌^◌, List, Some, ℤ, unsigned_abs}
use Rattle.asm_text.specs.declared.statement.Number.{Number}
use Rattle.asm_text.specs.declared.statement.Number.TheVariants.{Small, Large}
use Rattle.asm_text.specs.declared.statement.Statement.{Statement}
use Rattle.asm_text.specs.declared.statement.Statement.TheVariants as kept
use Rattle.asm_text.specs.declared.statement.StatementReading.{StatementReading}
use Rattle.asm_text.specs.declared.statement.StatementReading.TheVariants as read
use Rattle.asm_text.specs.Statements as says
use Rattle.asm_text.specs.Statements.{numbers_of, operands}

-- the number is kept, or that no field can hold it
abbrev pub Tells : Number → ℤ → Type 0
Tells (Small value) n = n ≡ value
Tells Large n = 2 ^ 63 ≤ unsigned_abs n

-- a statement with a number that is kept so
abbrev pub WithNumber : Number → (ℤ → says.Statement) → says.Statement → Type 0
WithNumber kept make s = (n : ℤ) × Tells kept n × (s ≡ make n)

-- the statement is kept so
abbrev pub Keeps : Statement → says.Statement → Type 0
Keeps kept.Nothing s = s ≡ says.Nothing
Keeps (kept.Label name) s = s ≡ says.Label name.now
Keeps (kept.Lui rd imm) s = WithNumber imm (says.Lui rd) s
Keeps (kept.Auipc rd imm) s = WithNumber imm (says.Auipc rd) s
Keeps (kept.Jal rd label) s = s ≡ says.Jal rd label.now
Keeps (kept.Jalr rd rs1 imm) s = WithNumber imm (says.Jalr rd rs1) s
Keeps (kept.Branch op rs1 rs2 label) s = s ≡ says.Branch op rs1 rs2 label.now
Keeps (kept.Load op rd rs1 imm) s = WithNumber imm (says.Load op rd rs1) s
Keeps (kept.Store op rs1 rs2 imm) s = WithNumber imm (says.Store op rs1 rs2) s
Keeps (kept.Imm op rd rs1 imm) s = WithNumber imm (says.Imm op rd rs1) s
Keeps (kept.Plain instr) s = s ≡ says.Plain instr
Keeps (kept.Address rd label) s = s ≡ says.Address rd label.now
Keeps (kept.Bytes text) s = (numbers : List ℤ) × (numbers_of (operands text.now) ≡ Some numbers) × (s ≡ says.Bytes numbers)
Keeps (kept.Zeros count) s = WithNumber count says.Zeros s

-- the reading is kept so
abbrev pub KeepsReading : StatementReading → says.StatementReading → Type 0
KeepsReading (read.Says kept) r = (s : says.Statement) × Keeps kept s × (r ≡ says.Says s)
KeepsReading (read.Wrong kind) r = r ≡ says.Wrong kind

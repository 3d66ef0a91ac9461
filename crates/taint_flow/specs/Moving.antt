-- Instructions that move sets as they are, between a register and memory or from one register to another.
use Rattle.std.specs.Prelude.{◌≡◌, ◌≢◌, ◌<◌, ℤ, true, []}
use Rattle.rv64_isa.specs.declared.instruction.Instr.{Instr}
use Rattle.rv64_isa.specs.declared.instruction.Instr.TheVariants.{Imm, Load, Store}
use Rattle.rv64_isa.specs.declared.instruction.ImmOp.{ImmOp}
use Rattle.rv64_isa.specs.declared.instruction.ImmOp.TheVariants.{Addi, Xori, Ori, Andi}
use Rattle.rv64_isa.specs.declared.instruction.LoadOp.{LoadOp}
use Rattle.rv64_model.specs.declared.linkage.Linkage.{Linkage}
use Rattle.rv64_model.specs.declared.linkage.Linkage.TheVariants.{Copy, Data, Index}
use Rattle.rv64_model.specs.Carries.{extended_from, is_zero}

-- the register's bytes above those that are loaded take nothing: under `copy` never, under `data` but those of a sign. Under `index` what is
-- loaded takes the address too
abbrev pub Fills : Linkage → LoadOp → Type 0
Fills Copy op = Unit {0}
Fills Data op = extended_from op ≡ []
Fills Index op = ⊥

-- a load that moves the sets of what it loads as they are, and so not to x0
abbrev pub MovesLoaded : Linkage → Instr → Type 0
MovesLoaded linkage (Load op rd rs1 imm) = (0 < rd) × Fills linkage op
MovesLoaded linkage other = ⊥

-- a store that moves the sets of a register's bytes as they are: under `index` what is stored takes the address too
abbrev pub MovesStored : Linkage → Instr → Type 0
MovesStored linkage (Store op rs1 rs2 imm) = linkage ≢ Index
MovesStored linkage other = ⊥

-- each byte of the register that is written takes the byte in its place of the one that is read, and nothing else: in a move, which is
-- ADDI with 0, and in a bitwise operation, which carries nothing under `copy`
abbrev pub Keeps : Linkage → ImmOp → ℤ → Type 0
Keeps linkage Addi imm = is_zero imm ≡ true
Keeps linkage Xori imm = linkage ≢ Copy
Keeps linkage Ori imm = linkage ≢ Copy
Keeps linkage Andi imm = linkage ≢ Copy
Keeps linkage op imm = ⊥

-- an operation with a number that moves the sets of a register's bytes to another one as they are, and so not to x0
abbrev pub MovesRegister : Linkage → Instr → Type 0
MovesRegister linkage (Imm op rd rs1 imm) = (0 < rd) × Keeps linkage op imm
MovesRegister linkage other = ⊥

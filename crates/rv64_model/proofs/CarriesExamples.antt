-- What bytes take, at literal instructions.
use Rattle.std.proofs.Common.{◌≡◌, ◌++◌, [], ◌∷◌, pos, negsuc, refl}
use Rattle.rv64_isa.specs.declared.instruction.Instr.TheVariants.{Lui, Jal, Load, Store, Imm, Op}
use Rattle.rv64_isa.specs.declared.instruction.ImmOp.TheVariants.{Addi, Andi, Addiw, Srai, Slliw, Sltiu}
use Rattle.rv64_isa.specs.declared.instruction.RegOp.TheVariants.{Add, Sub, Xor, Sll, Slt, Subw, Sraw}
use Rattle.rv64_isa.specs.declared.instruction.LoadOp.TheVariants.{Lb, Lh, Lw, Ld, Lbu, Lhu, Lwu}
use Rattle.rv64_isa.specs.declared.instruction.StoreOp.TheVariants.{Sh}
use Rattle.rv64_model.specs.declared.linkage.Linkage.TheVariants.{Copy, Data, Index}
use Rattle.rv64_model.specs.Carries.{Left, Right, Loaded, Address, first_bytes, operands}

-- a move carries each byte, an addition and a move to x0 carry none
copies :
    (operands Copy (Imm Addi 5 6 (pos 0)) 3 ≡ Left 3 ∷ [])
    × (operands Copy (Imm Addi 5 6 (pos 1)) 3 ≡ [])
    × (operands Copy (Imm Addi 5 6 (negsuc 0)) 0 ≡ [])
    × (operands Copy (Imm Addi 0 6 (pos 0)) 3 ≡ [])
    -- a load carries the bytes that it reads, a store the low bytes of rs2, and a sum none
    × (operands Copy (Load Lw 5 6 (pos 0)) 3 ≡ Loaded 3 ∷ [])
    × (operands Copy (Load Lw 5 6 (pos 0)) 4 ≡ [])
    × (operands Copy (Load Ld 0 6 (pos 0)) 0 ≡ [])
    × (operands Copy (Store Sh 5 6 (pos 0)) 1 ≡ Right 1 ∷ [])
    × (operands Copy (Op Add 5 6 7) 0 ≡ [])
copies = (refl, refl, refl, refl, refl, refl, refl, refl, refl)

-- under `data` a difference takes the bytes up to its own, since borrows go up; under `copy` it takes none
data-bits :
    (operands Data (Op Sub 5 6 7) 0 ≡ Left 0 ∷ Right 0 ∷ [])
    × (operands Data (Op Sub 5 6 7) 7 ≡ first_bytes Left 8 ++ first_bytes Right 8)
    × (operands Data (Op Sub 5 6 7) 2 ≡ Left 0 ∷ Left 1 ∷ Left 2 ∷ Right 0 ∷ Right 1 ∷ Right 2 ∷ [])
    -- bits of one byte alone
    × (operands Data (Op Xor 5 6 7) 3 ≡ Left 3 ∷ Right 3 ∷ [])
    × (operands Data (Imm Andi 5 6 (pos 0)) 3 ≡ Left 3 ∷ [])
data-bits = (refl, refl, refl, refl, refl)

-- ADDI with 0 is a move, ADDIW with 0 is none; the upper bytes of a W form are its sign
data-moves :
    (operands Data (Imm Addi 5 6 (pos 0)) 3 ≡ Left 3 ∷ [])
    × (operands Data (Imm Addi 5 6 (pos 1)) 1 ≡ Left 0 ∷ Left 1 ∷ [])
    × (operands Data (Imm Addiw 5 6 (pos 0)) 1 ≡ Left 0 ∷ Left 1 ∷ [])
    × (operands Data (Imm Addiw 5 6 (pos 0)) 7 ≡ Left 0 ∷ Left 1 ∷ Left 2 ∷ Left 3 ∷ [])
    × (operands Data (Op Subw 5 6 7) 4 ≡ first_bytes Left 4 ++ first_bytes Right 4)
data-moves = (refl, refl, refl, refl, refl)

-- a shift takes all that it may move, and how far
data-shifts :
    (operands Data (Op Sll 5 6 7) 2 ≡ first_bytes Left 8 ++ Right 0 ∷ [])
    × (operands Data (Imm Srai 5 6 (pos 3)) 2 ≡ first_bytes Left 8)
    × (operands Data (Op Sraw 5 6 7) 6 ≡ Left 0 ∷ Left 1 ∷ Left 2 ∷ Left 3 ∷ Right 0 ∷ [])
    × (operands Data (Imm Slliw 5 6 (pos 3)) 0 ≡ first_bytes Left 4)
    -- a comparison gives one byte
    × (operands Data (Op Slt 5 6 7) 0 ≡ first_bytes Left 8 ++ first_bytes Right 8)
    × (operands Data (Op Slt 5 6 7) 1 ≡ [])
    × (operands Data (Imm Sltiu 5 6 (pos 3)) 0 ≡ first_bytes Left 8)
data-shifts = (refl, refl, refl, refl, refl, refl, refl)

-- a constant takes none, and nor does a link
data-constants :
    (operands Data (Lui 5 (pos 4096)) 1 ≡ [])
    × (operands Data (Jal 5 (pos 8)) 0 ≡ [])
    × (operands Data (Op Sub 0 6 7) 0 ≡ [])
data-constants = (refl, refl, refl)

-- the upper bytes of a load are its sign, or zeros
data-loads :
    (operands Data (Load Lb 5 6 (pos 0)) 7 ≡ Loaded 0 ∷ [])
    × (operands Data (Load Lh 5 6 (pos 0)) 2 ≡ Loaded 1 ∷ [])
    × (operands Data (Load Lw 5 6 (pos 0)) 4 ≡ Loaded 3 ∷ [])
    × (operands Data (Load Lbu 5 6 (pos 0)) 1 ≡ [])
    × (operands Data (Load Lhu 5 6 (pos 0)) 2 ≡ [])
    × (operands Data (Load Lwu 5 6 (pos 0)) 4 ≡ [])
data-loads = (refl, refl, refl, refl, refl, refl)

-- under `index` what is loaded or stored also takes all of the address, its sign with it, but no zeros
index :
    (operands Index (Load Lb 5 6 (pos 0)) 0 ≡ Loaded 0 ∷ first_bytes Address 8)
    × (operands Index (Load Lb 5 6 (pos 0)) 7 ≡ Loaded 0 ∷ first_bytes Address 8)
    × (operands Index (Load Lbu 5 6 (pos 0)) 7 ≡ [])
    × (operands Index (Store Sh 5 6 (pos 0)) 1 ≡ Right 1 ∷ first_bytes Address 8)
    × (operands Index (Store Sh 5 6 (pos 0)) 2 ≡ [])
    × (operands Index (Op Sub 5 6 7) 0 ≡ Left 0 ∷ Right 0 ∷ [])
index = (refl, refl, refl, refl, refl, refl)

-- What instructions work out, at the edges.
use Rattle.std.proofs.Common.{◌≡◌, pos, negsuc, true, false, refl}
use Rattle.rv64_isa.specs.declared.instruction.BranchOp.TheVariants.{Beq, Bne, Blt, Bge, Bltu, Bgeu}
use Rattle.rv64_isa.specs.declared.instruction.LoadOp.TheVariants.{Lb, Lh, Lw, Ld, Lbu, Lhu, Lwu}
use Rattle.rv64_isa.specs.declared.instruction.StoreOp.TheVariants.{Sb, Sh, Sw, Sd}
use Rattle.rv64_isa.specs.declared.instruction.ImmOp.TheVariants.{Addi, Slti, Sltiu, Xori, Ori, Andi, Slli, Srli, Srai, Addiw, Slliw, Srliw, Sraiw}
use Rattle.rv64_isa.specs.declared.instruction.RegOp.TheVariants.{Add, Sub, Sll, Slt, Sltu, Xor, Srl, Sra, Or, And, Addw, Subw, Sllw, Srlw, Sraw}
use Rattle.rv64_model.specs.Values.{reg_result, imm_result, is_taken, load_len, load_result}
use Rattle.rv64_model.specs.Operands.{store_len}

-- sums and differences wrap
sums-and-orders :
    (reg_result Add 0xffffffffffffffff 1 ≡ 0)
    × (reg_result Sub 0 1 ≡ 0xffffffffffffffff)
    × (imm_result Addi 5 (negsuc 5) ≡ 0xffffffffffffffff)
    -- the least number is below 0 as a signed one
    × (reg_result Slt 0x8000000000000000 0 ≡ 1)
    × (reg_result Sltu 0x8000000000000000 0 ≡ 0)
    × (imm_result Sltiu 5 (negsuc 0) ≡ 1)
sums-and-orders = (refl, refl, refl, refl, refl, refl)

bits-and-shifts :
    (reg_result Xor 0b1100 0b1010 ≡ 0b0110)
    × (reg_result Or 0b1100 0b1010 ≡ 0b1110)
    × (reg_result And 0b1100 0b1010 ≡ 0b1000)
    × (imm_result Andi 0xfedcba9876543210 (negsuc 15) ≡ 0xfedcba9876543210)
    -- shifts by 0 to 63, of 64 bits
    × (reg_result Sll 3 63 ≡ 0x8000000000000000)
    × (reg_result Sll 3 64 ≡ 3)
    × (reg_result Srl 0x8000000000000000 63 ≡ 1)
    × (reg_result Sra 0x8000000000000000 63 ≡ 0xffffffffffffffff)
    × (imm_result Srai 0xfedcba9876543210 (pos 4) ≡ 0xffedcba987654321)
bits-and-shifts = (refl, refl, refl, refl, refl, refl, refl, refl, refl)

-- of 32 bits, the sign of the result extended
words :
    (reg_result Addw 0x7fffffff 1 ≡ 0xffffffff80000000)
    × (imm_result Addiw 0x100000000 (pos 0) ≡ 0)
    × (reg_result Subw 0xffffffff80000000 1 ≡ 0x7fffffff)
    × (reg_result Sllw 1 31 ≡ 0xffffffff80000000)
    × (reg_result Sllw 1 32 ≡ 1)
    × (reg_result Srlw 0x1280000000 31 ≡ 1)
    × (reg_result Srlw 0x1280000000 0 ≡ 0xffffffff80000000)
    × (reg_result Sraw 0x1280000000 31 ≡ 0xffffffffffffffff)
words = (refl, refl, refl, refl, refl, refl, refl, refl)

-- comparisons at the signs' edges
branches :
    (is_taken Beq 7 7 ≡ true)
    × (is_taken Bne 7 7 ≡ false)
    × (is_taken Blt 0xffffffffffffffff 0 ≡ true)
    × (is_taken Bge 0xffffffffffffffff 0 ≡ false)
    × (is_taken Bltu 0xffffffffffffffff 0 ≡ false)
    × (is_taken Bgeu 0xffffffffffffffff 0 ≡ true)
    × (is_taken Bge 7 7 ≡ true)
branches = (refl, refl, refl, refl, refl, refl, refl)

-- loads with the sign, and with zeros
loads :
    (load_result Lb 0x80 ≡ 0xffffffffffffff80)
    × (load_result Lh 0x8000 ≡ 0xffffffffffff8000)
    × (load_result Lw 0x80000000 ≡ 0xffffffff80000000)
    × (load_result Lw 0x7fffffff ≡ 0x7fffffff)
    × (load_result Ld 0x8000000000000000 ≡ 0x8000000000000000)
    × (load_result Lbu 0x80 ≡ 0x80)
    × (load_result Lhu 0x8000 ≡ 0x8000)
    × (load_result Lwu 0x80000000 ≡ 0x80000000)
loads = (refl, refl, refl, refl, refl, refl, refl, refl)

-- each immediate form
immediates :
    (imm_result Slti 0xfffffffffffffffe (negsuc 0) ≡ 1)
    × (imm_result Xori 5 (negsuc 0) ≡ 0xfffffffffffffffa)
    × (imm_result Ori 5 (negsuc 15) ≡ 0xfffffffffffffff5)
    × (imm_result Slli 3 (pos 63) ≡ 0x8000000000000000)
    × (imm_result Srli 0x8000000000000000 (pos 63) ≡ 1)
    × (imm_result Slliw 3 (pos 31) ≡ 0xffffffff80000000)
    × (imm_result Srliw 0x80000000 (pos 31) ≡ 1)
    × (imm_result Sraiw 0x80000000 (pos 31) ≡ 0xffffffffffffffff)
immediates = (refl, refl, refl, refl, refl, refl, refl, refl)

-- amounts are cut to 6 bits, and to 5
amounts :
    (reg_result Srl 6 65 ≡ 3)
    × (reg_result Sra 6 65 ≡ 3)
    × (reg_result Srlw 6 33 ≡ 3)
    × (reg_result Sraw 6 33 ≡ 3)
amounts = (refl, refl, refl, refl)

-- how many bytes are read and written
lengths :
    (load_len Lb ≡ 1)
    × (load_len Lh ≡ 2)
    × (load_len Lw ≡ 4)
    × (load_len Ld ≡ 8)
    × (load_len Lbu ≡ 1)
    × (load_len Lhu ≡ 2)
    × (load_len Lwu ≡ 4)
    × (store_len Sb ≡ 1)
    × (store_len Sh ≡ 2)
    × (store_len Sw ≡ 4)
    × (store_len Sd ≡ 8)
lengths = (refl, refl, refl, refl, refl, refl, refl, refl, refl, refl, refl)

-- Words as LLVM's assembler writes them, at least one for each row: `llvm-mc -triple=riscv64` with
-- `-show-encoding`, whose four bytes are read with the lowest first. The assembly stands above each.
-- A wrong opcode, field or immediate in the table does not check.
use Rattle.std.proofs.Common.{◌≡◌, ℕ, List, [], ◌∷◌, map, replicate, pos, negsuc, Some, None, refl}
use Rattle.rv64_isa.specs.Decoded.{decoded, decoded_by}
use Rattle.rv64_isa.specs.Encoded.{word_of}
use Rattle.rv64_isa.specs.declared.instruction.BranchOp.TheVariants.{Beq, Bne, Blt, Bge, Bltu, Bgeu}
use Rattle.rv64_isa.specs.declared.instruction.LoadOp.TheVariants.{Lb, Lh, Lw, Ld, Lbu, Lhu, Lwu}
use Rattle.rv64_isa.specs.declared.instruction.StoreOp.TheVariants.{Sb, Sh, Sw, Sd}
use Rattle.rv64_isa.specs.declared.instruction.ImmOp.TheVariants.{Addi, Slti, Sltiu, Xori, Ori, Andi, Slli, Srli, Srai, Addiw, Slliw, Srliw, Sraiw}
use Rattle.rv64_isa.specs.declared.instruction.RegOp.TheVariants.{Add, Sub, Sll, Slt, Sltu, Xor, Srl, Sra, Or, And, Addw, Subw, Sllw, Srlw, Sraw}
use Rattle.rv64_isa.specs.declared.instruction.Instr.{Instr}
use Rattle.rv64_isa.specs.declared.instruction.Instr.TheVariants.{Lui, Auipc, Jal, Jalr, Branch, Load, Store, Imm, Op, Fence, Ecall, Ebreak}

-- each word is read as its instruction, and each instruction is written as its word
record AreSpelled (rows : List (ℕ × Instr)) : Type 0 where
  pub read : map (λ (row : ℕ × Instr). decoded row.0) rows ≡ map (λ (row : ℕ × Instr). Some row.1) rows
  pub written : map (λ (row : ℕ × Instr). word_of row.1) rows ≡ map (λ (row : ℕ × Instr). row.0) rows

-- the U and J forms
u_and_j_spelled :
    AreSpelled (
    -- lui x5, 0x12345
    (0x123452b7, Lui 5 (pos 305418240))
    -- auipc x17, 0x1
    ∷ (0x00001897, Auipc 17 (pos 4096))
    -- jal x1, 2048
    ∷ (0x001000ef, Jal 1 (pos 2048))
    ∷ []
    )
unfolding decoded_by word_of
u_and_j_spelled = record { read = refl; written = refl }

-- the I form
i_spelled :
    AreSpelled (
    -- jalr x1, 8(x6)
    (0x008300e7, Jalr 1 6 (pos 8))
    -- lb x5, 16(x6)
    ∷ (0x01030283, Load Lb 5 6 (pos 16))
    -- lh x5, 17(x6)
    ∷ (0x01131283, Load Lh 5 6 (pos 17))
    -- lw x5, 18(x6)
    ∷ (0x01232283, Load Lw 5 6 (pos 18))
    -- ld x5, 19(x6)
    ∷ (0x01333283, Load Ld 5 6 (pos 19))
    -- lbu x5, 20(x6)
    ∷ (0x01434283, Load Lbu 5 6 (pos 20))
    -- lhu x5, 21(x6)
    ∷ (0x01535283, Load Lhu 5 6 (pos 21))
    -- lwu x5, 22(x6)
    ∷ (0x01636283, Load Lwu 5 6 (pos 22))
    -- addi x5, x6, -1
    ∷ (0xfff30293, Imm Addi 5 6 (negsuc 0))
    -- slti x5, x6, -2
    ∷ (0xffe32293, Imm Slti 5 6 (negsuc 1))
    -- sltiu x5, x6, -3
    ∷ (0xffd33293, Imm Sltiu 5 6 (negsuc 2))
    -- xori x5, x6, -4
    ∷ (0xffc34293, Imm Xori 5 6 (negsuc 3))
    -- ori x5, x6, -5
    ∷ (0xffb36293, Imm Ori 5 6 (negsuc 4))
    -- andi x5, x6, -6
    ∷ (0xffa37293, Imm Andi 5 6 (negsuc 5))
    -- addiw x5, x6, -7
    ∷ (0xff93029b, Imm Addiw 5 6 (negsuc 6))
    ∷ []
    )
unfolding decoded_by word_of
i_spelled = record { read = refl; written = refl }

-- shifts by an immediate: amounts of 6 bits, and of 5
shifts_spelled :
    AreSpelled (
    -- slli x5, x6, 33
    (0x02131293, Imm Slli 5 6 (pos 33))
    -- srli x5, x6, 33
    ∷ (0x02135293, Imm Srli 5 6 (pos 33))
    -- srai x5, x6, 63
    ∷ (0x43f35293, Imm Srai 5 6 (pos 63))
    -- slliw x5, x6, 17
    ∷ (0x0113129b, Imm Slliw 5 6 (pos 17))
    -- srliw x5, x6, 17
    ∷ (0x0113529b, Imm Srliw 5 6 (pos 17))
    -- sraiw x5, x6, 31
    ∷ (0x41f3529b, Imm Sraiw 5 6 (pos 31))
    ∷ []
    )
unfolding decoded_by word_of
shifts_spelled = record { read = refl; written = refl }

-- the S form
s_spelled :
    AreSpelled (
    -- sb x7, 40(x6)
    (0x02730423, Store Sb 6 7 (pos 40))
    -- sh x7, 41(x6)
    ∷ (0x027314a3, Store Sh 6 7 (pos 41))
    -- sw x7, 42(x6)
    ∷ (0x02732523, Store Sw 6 7 (pos 42))
    -- sd x7, 43(x6)
    ∷ (0x027335a3, Store Sd 6 7 (pos 43))
    ∷ []
    )
unfolding decoded_by word_of
s_spelled = record { read = refl; written = refl }

-- the B form
b_spelled :
    AreSpelled (
    -- beq x6, x7, 8
    (0x00730463, Branch Beq 6 7 (pos 8))
    -- bne x6, x7, 16
    ∷ (0x00731863, Branch Bne 6 7 (pos 16))
    -- blt x6, x7, 24
    ∷ (0x00734c63, Branch Blt 6 7 (pos 24))
    -- bge x6, x7, 32
    ∷ (0x02735063, Branch Bge 6 7 (pos 32))
    -- bltu x6, x7, 40
    ∷ (0x02736463, Branch Bltu 6 7 (pos 40))
    -- bgeu x6, x7, 48
    ∷ (0x02737863, Branch Bgeu 6 7 (pos 48))
    ∷ []
    )
unfolding decoded_by word_of
b_spelled = record { read = refl; written = refl }

-- the R form
r_spelled :
    AreSpelled (
    -- add x5, x6, x7
    (0x007302b3, Op Add 5 6 7)
    -- sub x5, x6, x7
    ∷ (0x407302b3, Op Sub 5 6 7)
    -- sll x5, x6, x7
    ∷ (0x007312b3, Op Sll 5 6 7)
    -- slt x5, x6, x7
    ∷ (0x007322b3, Op Slt 5 6 7)
    -- sltu x5, x6, x7
    ∷ (0x007332b3, Op Sltu 5 6 7)
    -- xor x5, x6, x7
    ∷ (0x007342b3, Op Xor 5 6 7)
    -- srl x5, x6, x7
    ∷ (0x007352b3, Op Srl 5 6 7)
    -- sra x5, x6, x7
    ∷ (0x407352b3, Op Sra 5 6 7)
    -- or x5, x6, x7
    ∷ (0x007362b3, Op Or 5 6 7)
    -- and x5, x6, x7
    ∷ (0x007372b3, Op And 5 6 7)
    -- addw x5, x6, x7
    ∷ (0x007302bb, Op Addw 5 6 7)
    -- subw x5, x6, x7
    ∷ (0x407302bb, Op Subw 5 6 7)
    -- sllw x5, x6, x7
    ∷ (0x007312bb, Op Sllw 5 6 7)
    -- srlw x5, x6, x7
    ∷ (0x007352bb, Op Srlw 5 6 7)
    -- sraw x5, x6, x7
    ∷ (0x407352bb, Op Sraw 5 6 7)
    ∷ []
    )
unfolding decoded_by word_of
r_spelled = record { read = refl; written = refl }

-- whole words
whole_spelled :
    AreSpelled (
    -- fence
    (0x0ff0000f, Fence 0x0ff0000f)
    -- ecall
    ∷ (0x00000073, Ecall)
    -- ebreak
    ∷ (0x00100073, Ebreak)
    ∷ []
    )
unfolding decoded_by word_of
whole_spelled = record { read = refl; written = refl }

-- the ends of each form's immediates
ends_spelled :
    AreSpelled (
    -- ld x31, -2048(x30)
    (0x800f3f83, Load Ld 31 30 (negsuc 2047))
    -- ld x31, 2047(x30)
    ∷ (0x7fff3f83, Load Ld 31 30 (pos 2047))
    -- sd x31, -2048(x30)
    ∷ (0x81ff3023, Store Sd 30 31 (negsuc 2047))
    -- sd x31, 2047(x30)
    ∷ (0x7fff3fa3, Store Sd 30 31 (pos 2047))
    -- beq x31, x30, -4096
    ∷ (0x81ef8063, Branch Beq 31 30 (negsuc 4095))
    -- beq x31, x30, 4094
    ∷ (0x7fef8fe3, Branch Beq 31 30 (pos 4094))
    -- beq x31, x30, 2048
    ∷ (0x01ef80e3, Branch Beq 31 30 (pos 2048))
    -- jal x31, -1048576
    ∷ (0x80000fef, Jal 31 (negsuc 1048575))
    -- jal x31, 1048574
    ∷ (0x7fffffef, Jal 31 (pos 1048574))
    -- jal x31, 4096
    ∷ (0x00001fef, Jal 31 (pos 4096))
    -- lui x31, 0x80000
    ∷ (0x80000fb7, Lui 31 (negsuc 2147483647))
    -- lui x31, 0x7ffff
    ∷ (0x7fffffb7, Lui 31 (pos 2147479552))
    -- lui x31, 0xfffff
    ∷ (0xffffffb7, Lui 31 (negsuc 4095))
    ∷ []
    )
unfolding decoded_by word_of
ends_spelled = record { read = refl; written = refl }

-- words that no row has
unspelled :
    map decoded (
    -- all zeros
    0x00000000
    -- all ones
    ∷ 0xffffffff
    -- jalr with another funct3
    ∷ 0x008310e7
    -- a branch, a load and a store with a funct3 of no row
    ∷ 0x00732463
    ∷ 0x01037283
    ∷ 0x02734423
    -- slli, srai and slliw with an upper bit of no row
    ∷ 0x04001013
    ∷ 0xc3f35293
    ∷ 0x0203129b
    -- addiw with another funct3
    ∷ 0xff93229b
    -- mul, and sll with the upper bits of sub
    ∷ 0x027302b3
    ∷ 0x407312b3
    -- slt with the opcode of addw
    ∷ 0x007322bb
    -- fence.i
    ∷ 0x0000100f
    -- ecall with a register, and with a funct3
    ∷ 0x000000f3
    ∷ 0x00001073
    -- uret, and wfi
    ∷ 0x00200073
    ∷ 0x10500073
    ∷ []
    ) ≡ replicate 18 None
unfolding decoded_by
unspelled = refl

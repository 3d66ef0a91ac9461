-- Instructions at literal values.
use Rattle.std.proofs.Common.{◌≡◌, ℕ, List, [], ◌∷◌, pos, negsuc, replicate, refl}
use Rattle.arn_base.specs.Window.{Window}
use Rattle.arn_base.specs.declared.machine.Cpu.{Cpu}
use Rattle.rv64_isa.specs.declared.instruction.Instr.TheVariants.{Lui, Auipc, Jal, Jalr, Branch, Load, Store, Imm, Fence, Ebreak}
use Rattle.rv64_isa.specs.declared.instruction.ImmOp.TheVariants.{Addi}
use Rattle.rv64_isa.specs.declared.instruction.BranchOp.TheVariants.{Beq, Bne}
use Rattle.rv64_isa.specs.declared.instruction.LoadOp.TheVariants.{Lb, Lw}
use Rattle.rv64_isa.specs.declared.instruction.StoreOp.TheVariants.{Sh, Sd}
use Rattle.rv64_isa.specs.Decoded as decoding
use Rattle.arn_base.specs.Window as window
use Rattle.rv64_model.specs.Registers.{with_register}
use Rattle.rv64_model.specs.Instruction.{Next, Call, End, instruction, executed}

-- two words in a window
words : List Window
words = record { from = 0x10000; bytes = 0x93 ∷ 0x08 ∷ 0xb0 ∷ 0x00 ∷ 0x73 ∷ 0 ∷ 0 ∷ 0 ∷ [] } ∷ []

zeros_at : ℕ → Cpu
zeros_at pc = record { x = replicate 31 0; pc = pc }

-- `addi x17, x0, 11` is next, then a call, and behind the window there is nothing to fetch
runs :
    (instruction (zeros_at 0x10000) words ≡ Next (Imm Addi 17 0 (pos 11)) (record (with_register (zeros_at 0x10000) 17 11) { pc = 0x10004 }) words)
    × (instruction (zeros_at 0x10004) words ≡ Call)
    × (instruction (zeros_at 0x10008) words ≡ End 139)
    × (instruction (zeros_at 0x10006) words ≡ End 139)
    × (instruction (zeros_at 0x10000) (record { from = 0x10000; bytes = 0 ∷ 0 ∷ 0 ∷ 0 ∷ [] } ∷ []) ≡ End 132)
unfolding words zeros_at decoding.decoded_by
runs = (refl, refl, refl, refl, refl)

-- a jump goes to a distance from the instruction, and its link is the address of the next word; a target that is no multiple of 4 ends
-- the process
jumps :
    (executed (Jal 1 (negsuc 7)) (zeros_at 0x10008) words ≡ Next (Jal 1 (negsuc 7)) (record (with_register (zeros_at 0x10008) 1 0x1000c) { pc = 0x10000 }) words)
    × (executed (Jal 1 (pos 2)) (zeros_at 0x10000) words ≡ End 135)
    × (executed (Jalr 0 0 (pos 9)) (zeros_at 0x10000) words ≡ Next (Jalr 0 0 (pos 9)) (zeros_at 8) words)
    × (executed (Branch Beq 5 6 (pos 2)) (zeros_at 0x10000) words ≡ End 135)
    × (executed (Branch Bne 5 6 (pos 2)) (zeros_at 0x10000) words ≡ Next (Branch Bne 5 6 (pos 2)) (zeros_at 0x10004) words)
unfolding words zeros_at
jumps = (refl, refl, refl, refl, refl)

-- a constant's sign is extended; one that is added to pc may lead back
results :
    (executed (Lui 5 (negsuc 4095)) (zeros_at 0x10000) words ≡ Next (Lui 5 (negsuc 4095)) (record (with_register (zeros_at 0x10000) 5 0xfffffffffffff000) { pc = 0x10004 }) words)
    × (executed (Auipc 5 (negsuc 4095)) (zeros_at 0x10000) words ≡ Next (Auipc 5 (negsuc 4095)) (record (with_register (zeros_at 0x10000) 5 0xf000) { pc = 0x10004 }) words)
    × (executed (Fence 0x0ff0000f) (zeros_at 0x10000) words ≡ Next (Fence 0x0ff0000f) (zeros_at 0x10004) words)
    -- the target is worked out before the link is written
    × (executed (Jalr 1 1 (pos 4)) (with_register (zeros_at 0x10000) 1 0x20001) words ≡ Next (Jalr 1 1 (pos 4)) (record (with_register (zeros_at 0x10000) 1 0x10004) { pc = 0x20004 }) words)
    × (executed (Jalr 1 0 (pos 3)) (zeros_at 0x10000) words ≡ End 135)
    × (executed (Branch Beq 5 6 (negsuc 7)) (zeros_at 0x10008) words ≡ Next (Branch Beq 5 6 (negsuc 7)) (zeros_at 0x10000) words)
unfolding words zeros_at
results = (refl, refl, refl, refl, refl, refl)

-- the address is that of x17, whose value is 0x10000
at_window : Cpu
at_window = with_register (zeros_at 0x10000) 17 0x10000

memory :
    (executed (Load Lb 5 17 (pos 2)) at_window words ≡ Next (Load Lb 5 17 (pos 2)) (record (with_register at_window 5 0xffffffffffffffb0) { pc = 0x10004 }) words)
    × (executed (Load Lw 5 17 (pos 5)) at_window words ≡ End 139)
    × (executed (Store Sh 17 5 (pos 6)) (with_register at_window 5 0x818283) words ≡ Next (Store Sh 17 5 (pos 6)) (record (with_register at_window 5 0x818283) { pc = 0x10004 }) (record { from = 0x10000; bytes = 0x93 ∷ 0x08 ∷ 0xb0 ∷ 0x00 ∷ 0x73 ∷ 0 ∷ 0x83 ∷ 0x82 ∷ [] } ∷ []))
    × (executed (Load Lb 0 17 (pos 2)) at_window words ≡ Next (Load Lb 0 17 (pos 2)) (record at_window { pc = 0x10004 }) words)
    × (executed (Load Lw 0 17 (pos 5)) at_window words ≡ End 139)
    × (executed (Store Sd 17 17 (pos 1)) at_window words ≡ End 139)
    × (executed Ebreak (zeros_at 0x10000) words ≡ End 133)
unfolding words zeros_at at_window window.bytes_of
memory = (refl, refl, refl, refl, refl, refl, refl)

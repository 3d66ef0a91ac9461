-- Literal texts.
use Rattle.std.proofs.Common.{◌≡◌, ◌++◌, [], ◌∷◌, Some, None, codes, pos, negsuc, refl, true, false}
use Rattle.std.specs.Fmt.{digits}
use Rattle.rv64_isa.specs.declared.instruction.Instr.TheVariants as instr
use Rattle.rv64_isa.specs.declared.instruction.BranchOp.TheVariants.{Bgeu}
use Rattle.rv64_isa.specs.declared.instruction.LoadOp.TheVariants.{Lwu}
use Rattle.rv64_isa.specs.declared.instruction.StoreOp.TheVariants.{Sd}
use Rattle.rv64_isa.specs.declared.instruction.ImmOp.TheVariants.{Addi, Sraiw}
use Rattle.rv64_isa.specs.declared.instruction.RegOp.TheVariants.{Subw}
use Rattle.asm_text.specs.declared.fault.AsmKind.TheVariants as kind
use Rattle.asm_text.specs.Names.{is_label, register_of}
use Rattle.asm_text.specs.Numbers.{number_of}
use Rattle.asm_text.specs.Characters.{trimmed}
use Rattle.asm_text.specs.Statements as says
use Rattle.asm_text.specs.Statements.{Says, Wrong, reading}

registers :
    (register_of (codes "fp") ≡ Some 8)
    × (register_of (codes "s11") ≡ Some 27)
    × (register_of (codes "x32") ≡ None)
    × (register_of (codes "s12") ≡ None)
    × (register_of (codes "t7") ≡ None)
unfolding digits
registers = (refl, refl, refl, refl, refl)

numbers :
    (number_of (codes "-16") ≡ Some (negsuc 15))
    × (number_of (codes "0x10") ≡ Some (pos 16))
    × (number_of (codes "0xAf") ≡ Some (pos 175))
    × (number_of (codes "0X1") ≡ None)
    × (number_of (codes "01") ≡ None)
    × (number_of (codes "010") ≡ None)
    × (number_of (codes "+1") ≡ None)
    × (number_of (codes "-0x1") ≡ None)
    × (number_of (codes "-0") ≡ Some (pos 0))
    × (number_of (codes "9223372036854775808") ≡ Some (pos 9223372036854775808))
numbers = (refl, refl, refl, refl, refl, refl, refl, refl, refl, refl)

trimmed-both : trimmed (codes "  a b ") ≡ codes "a b"
trimmed-both = refl

labels :
    (reading [] ≡ Says says.Nothing)
    × (reading (codes "loop_2:") ≡ Says (says.Label (codes "loop_2")))
    × (reading (codes "2:") ≡ Wrong kind.Word)
    × (reading (codes "loop :") ≡ Wrong kind.Word)
    × (is_label (codes "a2345678901234567890123456789012") ≡ true)
    × (is_label (codes "a23456789012345678901234567890123") ≡ false)
labels = (refl, refl, refl, refl, refl, refl)

says-instructions :
    (reading (codes "lui zero, 0x10") ≡ Says (says.Lui 0 (pos 16)))
    × (reading (codes "auipc fp ,1048576") ≡ Says (says.Auipc 8 (pos 1048576)))
    × (reading (codes "jal ra, loop") ≡ Says (says.Jal 1 (codes "loop")))
    × (reading (codes "jalr ra, 0 ( sp )") ≡ Says (says.Jalr 1 2 (pos 0)))
    × (reading (codes "bgeu ra, sp, loop") ≡ Says (says.Branch Bgeu 1 2 (codes "loop")))
    × (reading (codes "lwu ra, -8(sp)") ≡ Says (says.Load Lwu 1 2 (negsuc 7)))
    × (reading (codes "sd ra, 8(sp)") ≡ Says (says.Store Sd 2 1 (pos 8)))
    × (reading (codes "sraiw ra, sp, 3") ≡ Says (says.Imm Sraiw 1 2 (pos 3)))
    × (reading (codes "subw ra, sp, gp") ≡ Says (says.Plain (instr.Op Subw 1 2 3)))
    × (reading (codes "fence") ≡ Says (says.Plain (instr.Fence 0x0ff0000f)))
says-instructions = (refl, refl, refl, refl, refl, refl, refl, refl, refl, refl)

says-others :
    (reading (codes "ecall") ≡ Says (says.Plain instr.Ecall))
    × (reading (codes "ebreak") ≡ Says (says.Plain instr.Ebreak))
    × (reading (codes "li" ++ 9 ∷ codes "x31, -1") ≡ Says (says.Imm Addi 31 0 (negsuc 0)))
    × (reading (codes "mv ra, sp") ≡ Says (says.Imm Addi 1 2 (pos 0)))
    × (reading (codes "j loop") ≡ Says (says.Jal 0 (codes "loop")))
    × (reading (codes "la a7, loop") ≡ Says (says.Address 17 (codes "loop")))
    × (reading (codes ".byte 1, 0xff, 256") ≡ Says (says.Bytes (pos 1 ∷ pos 255 ∷ pos 256 ∷ [])))
    × (reading (codes ".zero 16") ≡ Says (says.Zeros (pos 16)))
unfolding digits
says-others = (refl, refl, refl, refl, refl, refl, refl, refl)

says-wrong :
    (reading (codes "nop") ≡ Wrong kind.Word)
    × (reading (codes "ECALL") ≡ Wrong kind.Word)
    × (reading (codes "add ra, sp") ≡ Wrong kind.Operand)
    × (reading (codes "ecall ra") ≡ Wrong kind.Operand)
    × (reading (codes "mv ra, t7") ≡ Wrong kind.Operand)
    × (reading (codes ".byte") ≡ Wrong kind.Operand)
    × (reading (codes ".byte 1,") ≡ Wrong kind.Operand)
unfolding digits
says-wrong = (refl, refl, refl, refl, refl, refl, refl)

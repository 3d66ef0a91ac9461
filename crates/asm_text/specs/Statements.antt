-- What a statement says.
use Rattle.std.specs.Prelude.{ℕ, ◌==◌, ◌&&◌, if◌then◌else◌, List, [], ◌∷◌, length, map, drop, reverse, Option, Some, None, option_map, option_and_then, codes, bytes_eq, ℤ, pos}
use Rattle.std.specs.List.{find}
use Rattle.rv64_isa.specs.declared.instruction.Instr.{Instr}
use Rattle.rv64_isa.specs.declared.instruction.Instr.TheVariants as instr
use Rattle.rv64_isa.specs.declared.instruction.BranchOp.{BranchOp}
use Rattle.rv64_isa.specs.declared.instruction.BranchOp.TheVariants.{Beq, Bne, Blt, Bge, Bltu, Bgeu}
use Rattle.rv64_isa.specs.declared.instruction.LoadOp.{LoadOp}
use Rattle.rv64_isa.specs.declared.instruction.LoadOp.TheVariants.{Lb, Lh, Lw, Ld, Lbu, Lhu, Lwu}
use Rattle.rv64_isa.specs.declared.instruction.StoreOp.{StoreOp}
use Rattle.rv64_isa.specs.declared.instruction.StoreOp.TheVariants.{Sb, Sh, Sw, Sd}
use Rattle.rv64_isa.specs.declared.instruction.ImmOp.{ImmOp}
use Rattle.rv64_isa.specs.declared.instruction.ImmOp.TheVariants.{Addi, Slti, Sltiu, Xori, Ori, Andi, Slli, Srli, Srai, Addiw, Slliw, Srliw, Sraiw}
use Rattle.rv64_isa.specs.declared.instruction.RegOp.TheVariants.{Add, Sub, Sll, Slt, Sltu, Xor, Srl, Sra, Or, And, Addw, Subw, Sllw, Srlw, Sraw}
use Rattle.asm_text.specs.declared.form.Form.{Form}
use Rattle.asm_text.specs.declared.form.Form.TheVariants as form
use Rattle.asm_text.specs.declared.fault.AsmKind.{AsmKind}
use Rattle.asm_text.specs.declared.fault.AsmKind.TheVariants as kind
use Rattle.asm_text.specs.Characters.{is_blank, before, parts, skip_blanks, trimmed}
use Rattle.asm_text.specs.Names.{is_label, register_of}
use Rattle.asm_text.specs.Numbers.{number_of}

-- a statement, with its registers, and its numbers and labels as they are written. The short forms stand as what they are short for
pub data Statement : Type 0 where
  Nothing : Statement
  Label : List ℕ → Statement
  -- the upper 20 bits of a constant
  Lui : ℕ → ℤ → Statement
  Auipc : ℕ → ℤ → Statement
  Jal : ℕ → List ℕ → Statement
  Jalr : ℕ → ℕ → ℤ → Statement
  Branch : BranchOp → ℕ → ℕ → List ℕ → Statement
  Load : LoadOp → ℕ → ℕ → ℤ → Statement
  Store : StoreOp → ℕ → ℕ → ℤ → Statement
  Imm : ImmOp → ℕ → ℕ → ℤ → Statement
  -- an instruction that stands as it is
  Plain : Instr → Statement
  -- the address of a label
  Address : ℕ → List ℕ → Statement
  Bytes : List ℤ → Statement
  Zeros : ℤ → Statement

-- what is read of a statement, or why nothing is
pub data StatementReading : Type 0 where
  Says : Statement → StatementReading
  Wrong : AsmKind → StatementReading

-- a word and its form
pub record Word : Type 0 where
  pub word : List ℕ
  pub form : Form

abbrev pub word : List ℕ → Form → Word
word w f = record { word = w; form = f }

-- the words: each mnemonic in lower case, the short forms, and what isn't an instruction
abbrev pub words : List Word
words =
    word (codes "lui") form.Lui ∷ word (codes "auipc") form.Auipc ∷ word (codes "jal") form.Jal ∷ word (codes "jalr") form.Jalr
    ∷ word (codes "beq") (form.Branch Beq) ∷ word (codes "bne") (form.Branch Bne) ∷ word (codes "blt") (form.Branch Blt)
    ∷ word (codes "bge") (form.Branch Bge) ∷ word (codes "bltu") (form.Branch Bltu) ∷ word (codes "bgeu") (form.Branch Bgeu)
    ∷ word (codes "lb") (form.Load Lb) ∷ word (codes "lh") (form.Load Lh) ∷ word (codes "lw") (form.Load Lw) ∷ word (codes "ld") (form.Load Ld)
    ∷ word (codes "lbu") (form.Load Lbu) ∷ word (codes "lhu") (form.Load Lhu) ∷ word (codes "lwu") (form.Load Lwu)
    ∷ word (codes "sb") (form.Store Sb) ∷ word (codes "sh") (form.Store Sh) ∷ word (codes "sw") (form.Store Sw) ∷ word (codes "sd") (form.Store Sd)
    ∷ word (codes "addi") (form.Imm Addi) ∷ word (codes "slti") (form.Imm Slti) ∷ word (codes "sltiu") (form.Imm Sltiu)
    ∷ word (codes "xori") (form.Imm Xori) ∷ word (codes "ori") (form.Imm Ori) ∷ word (codes "andi") (form.Imm Andi)
    ∷ word (codes "slli") (form.Imm Slli) ∷ word (codes "srli") (form.Imm Srli) ∷ word (codes "srai") (form.Imm Srai)
    ∷ word (codes "addiw") (form.Imm Addiw) ∷ word (codes "slliw") (form.Imm Slliw) ∷ word (codes "srliw") (form.Imm Srliw) ∷ word (codes "sraiw") (form.Imm Sraiw)
    ∷ word (codes "add") (form.Op Add) ∷ word (codes "sub") (form.Op Sub) ∷ word (codes "sll") (form.Op Sll) ∷ word (codes "slt") (form.Op Slt)
    ∷ word (codes "sltu") (form.Op Sltu) ∷ word (codes "xor") (form.Op Xor) ∷ word (codes "srl") (form.Op Srl) ∷ word (codes "sra") (form.Op Sra)
    ∷ word (codes "or") (form.Op Or) ∷ word (codes "and") (form.Op And) ∷ word (codes "addw") (form.Op Addw) ∷ word (codes "subw") (form.Op Subw)
    ∷ word (codes "sllw") (form.Op Sllw) ∷ word (codes "srlw") (form.Op Srlw) ∷ word (codes "sraw") (form.Op Sraw)
    ∷ word (codes "fence") form.Fence ∷ word (codes "ecall") form.Ecall ∷ word (codes "ebreak") form.Ebreak
    ∷ word (codes "li") form.Li ∷ word (codes "mv") form.Mv ∷ word (codes "j") form.J ∷ word (codes "la") form.La
    ∷ word (codes ".byte") form.Byte ∷ word (codes ".zero") form.Zero ∷ []

-- the form of a word, if there is such a word
abbrev pub form_of : List ℕ → Option Form
form_of text = option_map (λ w. w.form) (find (λ w. bytes_eq w.word text) words)

-- operands are separated by commas
abbrev pub operands : List ℕ → List (List ℕ)
operands [] = []
operands (c ∷ text) = map trimmed (parts 44 (c ∷ text))

-- a label as an operand
abbrev pub label_of : List ℕ → Option (List ℕ)
label_of text = if is_label text then Some text else None

-- a distance from a register
pub record Offset : Type 0 where
  pub imm : ℤ
  pub register : ℕ

-- the register between parentheses that end an operand
abbrev pub enclosed : List ℕ → Option ℕ
enclosed [] = None
enclosed (c ∷ back) = if c == 41 then register_of (trimmed (reverse back)) else None

abbrev pub offset_by : List (List ℕ) → Option Offset
offset_by (imm ∷ register ∷ []) = option_and_then (λ n. option_map (λ r. record { imm = n; register = r }) (enclosed (reverse register))) (number_of (trimmed imm))
offset_by _ = None

-- `imm(rs1)`
abbrev pub offset_of : List ℕ → Option Offset
offset_of text = offset_by (parts 40 text)

-- every text is a number
abbrev pub numbers_of : List (List ℕ) → Option (List ℤ)
numbers_of [] = Some []
numbers_of (text ∷ texts) = option_and_then (λ n. option_map (λ ns. n ∷ ns) (numbers_of texts)) (number_of text)

-- `rd, imm`
abbrev pub with_number : (ℕ → ℤ → Statement) → List (List ℕ) → Option Statement
with_number make (a ∷ b ∷ []) = option_and_then (λ r. option_map (make r) (number_of b)) (register_of a)
with_number make _ = None

-- `rd, label`
abbrev pub with_label : (ℕ → List ℕ → Statement) → List (List ℕ) → Option Statement
with_label make (a ∷ b ∷ []) = option_and_then (λ r. option_map (make r) (label_of b)) (register_of a)
with_label make _ = None

-- `rd, imm(rs1)`
abbrev pub with_offset : (ℕ → ℕ → ℤ → Statement) → List (List ℕ) → Option Statement
with_offset make (a ∷ b ∷ []) = option_and_then (λ r. option_map (λ o. make r o.register o.imm) (offset_of b)) (register_of a)
with_offset make _ = None

-- two registers
abbrev pub with_two : (ℕ → ℕ → Statement) → List ℕ → List ℕ → Option Statement
with_two make a b = option_and_then (λ r. option_map (make r) (register_of b)) (register_of a)

-- two registers and one more operand
abbrev pub with_third : {A : Type 0} → (ℕ → ℕ → A → Statement) → (List ℕ → Option A) → List (List ℕ) → Option Statement
with_third make third (a ∷ b ∷ c ∷ []) = option_and_then (λ x. with_two (λ r s. make r s x) a b) (third c)
with_third make third _ = None

-- no operands
abbrev pub alone : Statement → List (List ℕ) → Option Statement
alone s [] = Some s
alone s _ = None

abbrev pub moved : List (List ℕ) → Option Statement
moved (a ∷ b ∷ []) = with_two (λ r s. Imm Addi r s (pos 0)) a b
moved _ = None

abbrev pub jumped : List (List ℕ) → Option Statement
jumped (a ∷ []) = option_map (Jal 0) (label_of a)
jumped _ = None

abbrev pub listed : List (List ℕ) → Option Statement
listed [] = None
listed (a ∷ texts) = option_map Bytes (numbers_of (a ∷ texts))

abbrev pub counted : List (List ℕ) → Option Statement
counted (a ∷ []) = option_map Zeros (number_of a)
counted _ = None

-- a statement of a form with these operands
abbrev pub formed : Form → List (List ℕ) → Option Statement
formed form.Lui texts = with_number Lui texts
formed form.Auipc texts = with_number Auipc texts
formed form.Jal texts = with_label Jal texts
formed form.Jalr texts = with_offset Jalr texts
formed (form.Branch op) texts = with_third (Branch op) label_of texts
formed (form.Load op) texts = with_offset (Load op) texts
formed (form.Store op) texts = with_offset (λ r b n. Store op b r n) texts
formed (form.Imm op) texts = with_third (Imm op) number_of texts
formed (form.Op op) texts = with_third (λ r s t. Plain (instr.Op op r s t)) register_of texts
formed form.Fence texts = alone (Plain (instr.Fence 0x0ff0000f)) texts
formed form.Ecall texts = alone (Plain instr.Ecall) texts
formed form.Ebreak texts = alone (Plain instr.Ebreak) texts
formed form.Li texts = with_number (λ r n. Imm Addi r 0 n) texts
formed form.Mv texts = moved texts
formed form.J texts = jumped texts
formed form.La texts = with_label Address texts
formed form.Byte texts = listed texts
formed form.Zero texts = counted texts

-- a statement or a fault
abbrev pub reading_or : AsmKind → Option Statement → StatementReading
reading_or why None = Wrong why
reading_or why (Some s) = Says s

abbrev pub by_form : Option Form → List ℕ → StatementReading
by_form None rest = Wrong kind.Word
by_form (Some f) rest = reading_or kind.Operand (formed f (operands rest))

-- a word, blanks, and its operands
abbrev pub worded : List ℕ → StatementReading
worded text = let first = before is_blank text in by_form (form_of first) (skip_blanks (drop (length first) text))

-- a label's definition is a label with `:` behind it at once
abbrev pub defined : List ℕ → List ℕ → StatementReading
defined [] text = worded text
defined (c ∷ back) text = if (c == 58) && is_label (reverse back) then Says (Label (reverse back)) else worded text

-- what a statement without blanks at its ends says
abbrev pub reading : List ℕ → StatementReading
reading [] = Says Nothing
reading (c ∷ text) = defined (reverse (c ∷ text)) (c ∷ text)

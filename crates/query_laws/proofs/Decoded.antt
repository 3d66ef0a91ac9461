-- An instruction at which a process stands names registers that there are.
use Rattle.std.proofs.Common.{ℕ, ◌<◌, ◌==◌, Bool, true, false, if◌then◌else◌, List, Option, Some, None, IfSome, option_map, arith}
use Rattle.std.proofs.lemmas.Bool.Decides.{nat_tests}
use Rattle.arn_base.specs.declared.machine.Cpu.{Cpu}
use Rattle.arn_base.specs.Window.{Window, number_at}
use Rattle.rv64_isa.specs.Decoded.{decoded, decoded_by, jalr_decoded, branch_decoded, load_decoded, store_decoded, imm_decoded, immediate_by, reg_decoded, fence_decoded, system_decoded}
use Rattle.rv64_isa.specs.Fields as field
use Rattle.rv64_isa.specs.Opcode.{lui, auipc, jal, jalr, branch, load, store, op_imm, op_imm_32, op as op_64, op_32, misc_mem, system, ecall_word, ebreak_word}
use Rattle.rv64_isa.specs.Rows.{branch_op_at, load_op_at, store_op_at, imm_op_at, imm_row, reg_op_at}
use Rattle.rv64_isa.specs.declared.instruction.Instr.{Instr}
use Rattle.rv64_isa.specs.declared.instruction.Instr.TheVariants.{Lui, Auipc, Jal, Jalr, Branch, Load, Store, Imm, Op, Fence, Ecall, Ebreak}
use Rattle.rv64_model.specs.Instruction.{Effect, Next, jumps, branches, loads, stores, executed, executed_if, fetched}
use Rattle.rv64_model.specs.Operands.{rs1_of, rs2_of}
use Rattle.acts_model.specs.Bodies.{View}
use Rattle.acts_model.specs.Transfers.{Transfer, Runs}
use Rattle.acts_model.specs.Views.{reach, stands_at}

-- the registers that an instruction reads
pub record ReadsRegisters (instr : Instr) : Type 0 where
  pub first : rs1_of instr < 32
  pub second : rs2_of instr < 32

-- each instruction of a step is so
abbrev pub FitsRun : (Instr → Type 0) → Transfer → Type 0
FitsRun Fit (Runs pid instr place) = Fit instr
FitsRun Fit transfer = Unit {0}

zero-low : 0 < 32
zero-low = omega arith

first-low : (word : ℕ) → field.rs1_of word < 32
first-low word = omega arith

second-low : (word : ℕ) → field.rs2_of word < 32
second-low word = omega arith

if-both : {A : Type 0} (P : A → Type 0) (b : Bool) (x y : Option A) → IfSome x P → IfSome y P → IfSome (if b then x else y) P
if-both P true x y f g = f
if-both P false x y f g = g

mapped : {A B : Type 0} (P : B → Type 0) (f : A → B) (o : Option A) → ((x : A) → P (f x)) → IfSome (option_map f o) P
mapped P f None h = tt
mapped P f (Some x) h = h x

decoded-reads : (opcode word : ℕ) → IfSome (decoded_by opcode word) ReadsRegisters
unfolding decoded_by
decoded-reads opcode word =
    if-both ReadsRegisters (opcode == lui) (Some (Lui (field.rd_of word) (field.u_immediate_of word))) _ (record { first = zero-low; second = zero-low })
    (if-both ReadsRegisters (opcode == auipc) (Some (Auipc (field.rd_of word) (field.u_immediate_of word))) _ (record { first = zero-low; second = zero-low })
    (if-both ReadsRegisters (opcode == jal) (Some (Jal (field.rd_of word) (field.j_immediate_of word))) _ (record { first = zero-low; second = zero-low })
    (if-both ReadsRegisters (opcode == jalr) (jalr_decoded word) _ (if-both ReadsRegisters (field.funct3_of word == 0) (Some (Jalr (field.rd_of word) (field.rs1_of word) (field.i_immediate_of word))) None (record { first = first-low word; second = zero-low }) tt)
    (if-both ReadsRegisters (opcode == branch) (branch_decoded word) _ (mapped ReadsRegisters (λ op. Branch op (field.rs1_of word) (field.rs2_of word) (field.b_immediate_of word)) (branch_op_at (field.funct3_of word)) (λ x. record { first = first-low word; second = second-low word }))
    (if-both ReadsRegisters (opcode == load) (load_decoded word) _ (mapped ReadsRegisters (λ op. Load op (field.rd_of word) (field.rs1_of word) (field.i_immediate_of word)) (load_op_at (field.funct3_of word)) (λ x. record { first = first-low word; second = zero-low }))
    (if-both ReadsRegisters (opcode == store) (store_decoded word) _ (mapped ReadsRegisters (λ op. Store op (field.rs1_of word) (field.rs2_of word) (field.s_immediate_of word)) (store_op_at (field.funct3_of word)) (λ x. record { first = first-low word; second = second-low word }))
    (if-both ReadsRegisters (opcode == op_imm) (imm_decoded word) _ imm
    (if-both ReadsRegisters (opcode == op_imm_32) (imm_decoded word) _ imm
    (if-both ReadsRegisters (opcode == op_64) (reg_decoded word) _ reg
    (if-both ReadsRegisters (opcode == op_32) (reg_decoded word) _ reg
    (if-both ReadsRegisters (opcode == misc_mem) (fence_decoded word) _ (if-both ReadsRegisters (field.funct3_of word == 0) (Some (Fence word)) None (record { first = zero-low; second = zero-low }) tt)
    (if-both ReadsRegisters (opcode == system) (system_decoded word) None
    (if-both ReadsRegisters (word == ecall_word) (Some Ecall) _ (record { first = zero-low; second = zero-low }) (if-both ReadsRegisters (word == ebreak_word) (Some Ebreak) None (record { first = zero-low; second = zero-low }) tt)) tt))))))))))))
  where
    imm : IfSome (imm_decoded word) ReadsRegisters
    imm = mapped ReadsRegisters (λ op. Imm op (field.rd_of word) (field.rs1_of word) (immediate_by (imm_row op).form word)) (imm_op_at (field.opcode_of word) (field.funct3_of word) (field.funct7_of word)) (λ x. record { first = first-low word; second = zero-low })

    reg : IfSome (reg_decoded word) ReadsRegisters
    reg = mapped ReadsRegisters (λ op. Op op (field.rd_of word) (field.rs1_of word) (field.rs2_of word)) (reg_op_at (field.opcode_of word) (field.funct3_of word) (field.funct7_of word)) (λ x. record { first = first-low word; second = second-low word })

-- what is done, if the next one follows it
abbrev pub NextReads : Effect → Type 0
NextReads (Next instr cpu memory) = ReadsRegisters instr
NextReads _ = Unit {0}

jumps-read : (instr : Instr) (cpu : Cpu) (memory : List Window) (rd target : ℕ) → ReadsRegisters instr → NextReads (jumps instr cpu memory rd target)
jumps-read instr cpu memory rd target h1 = grind (arith, nat_tests)

branches-read : (instr : Instr) (cpu : Cpu) (memory : List Window) (b : Bool) (target : ℕ) → ReadsRegisters instr → NextReads (branches instr cpu memory b target)
branches-read instr cpu memory false target h = h
branches-read instr cpu memory true target h = jumps-read instr cpu memory 0 target h

loads-read : (instr : Instr) (cpu : Cpu) (memory : List Window) (rd : ℕ) (o : Option ℕ) → ReadsRegisters instr → NextReads (loads instr cpu memory rd o)
loads-read instr cpu memory rd None h = tt
loads-read instr cpu memory rd (Some value) h = h

stores-read : (instr : Instr) (cpu : Cpu) (memory : List Window) (at len value : ℕ) → ReadsRegisters instr → NextReads (stores instr cpu memory at len value)
stores-read instr cpu memory at len value h1 = grind (arith, nat_tests)

executed-reads : (instr : Instr) (cpu : Cpu) (memory : List Window) → ReadsRegisters instr → NextReads (executed instr cpu memory)
executed-reads instr cpu memory h1 = grind (arith, nat_tests, branches-read, jumps-read, loads-read, stores-read)

executed_if-reads : (o : Option Instr) (cpu : Cpu) (memory : List Window) → IfSome o ReadsRegisters → NextReads (executed_if o cpu memory)
executed_if-reads None cpu memory h = tt
executed_if-reads (Some instr) cpu memory h = executed-reads instr cpu memory h

fetched-reads : (o : Option ℕ) (cpu : Cpu) (memory : List Window) → NextReads (fetched o cpu memory)
fetched-reads None cpu memory = tt
fetched-reads (Some word) cpu memory = executed_if-reads (decoded word) cpu memory (decoded-reads (field.opcode_of word) word)

pub stands-reads : (v : View) → NextReads (stands_at v)
stands-reads v = fetched-reads (number_at (reach v) v.body.cpu.pc 4) v.body.cpu (reach v)

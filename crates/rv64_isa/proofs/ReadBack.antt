-- What an instruction's word is decoded as: the instruction.
use Rattle.std.proofs.Common.{◌≡◌, ◌≢◌, ℕ, ◌+◌, ◌*◌, ◌^◌, ◌<◌, ◌≤◌, ℤ, pos, negsuc, ◌⊎◌, inl, inr, Some, None, refl, ap, subst, sym, ◌∙◌, arith, option_map, cond, ◌==◌}
use Rattle.std.proofs.lemmas.Int.{ints}
use Rattle.rv64_isa.specs.Bits.{bits_of}
use Rattle.rv64_isa.specs.Decoded.{decoded, decoded_by, jalr_decoded, branch_decoded, load_decoded, store_decoded, imm_decoded, reg_decoded, immediate_by}
use Rattle.rv64_isa.specs.Encoded.{word_of, r_word, i_word, imm_word, s_word, b_word, u_word, j_word, upper_by}
use Rattle.rv64_isa.specs.Fields.{opcode_of, rd_of, funct3_of, rs1_of, rs2_of, funct7_of, i_immediate_of, s_immediate_of, b_immediate_of, u_immediate_of, j_immediate_of}
use Rattle.rv64_isa.specs.Opcode.{lui, auipc, jal, op_imm, op_imm_32, op, op_32}
use Rattle.rv64_isa.specs.Rows.{IsRow, upper_of, jalr_row, branch_row, load_row, store_row, imm_row, reg_row, branch_op_at, load_op_at, store_op_at, imm_op_at, reg_op_at}
use Rattle.rv64_isa.specs.Signed.{signed_of, unsigned_of, FitsIn}
use Rattle.rv64_isa.specs.Valid.{HasRegisters, IsInRange, IsStep, IsFence, IsImmInRange}
use Rattle.rv64_isa.specs.declared.row.Row.{Row}
use Rattle.rv64_isa.specs.declared.row.Form.{Form}
use Rattle.rv64_isa.specs.declared.row.Form.TheVariants.{R, Shift, WordShift}
use Rattle.rv64_isa.specs.declared.instruction.BranchOp.{BranchOp}
use Rattle.rv64_isa.specs.declared.instruction.LoadOp.{LoadOp}
use Rattle.rv64_isa.specs.declared.instruction.StoreOp.{StoreOp}
use Rattle.rv64_isa.specs.declared.instruction.ImmOp.{ImmOp}
use Rattle.rv64_isa.specs.declared.instruction.RegOp.{RegOp}
use Rattle.rv64_isa.specs.declared.instruction.Instr.{Instr}
use Rattle.rv64_isa.specs.declared.instruction.Instr.TheVariants.{Lui, Auipc, Jal, Jalr, Branch, Load, Store, Imm, Op, Fence}
use Rattle.rv64_isa.proofs.SignedBits.{unsigned_of_lt}
use Rattle.rv64_isa.proofs.Immediates.{signed_of-unsigned_of, even-unsigned_of, whole-unsigned_of}
use Rattle.rv64_isa.proofs.Layouts.{HasFields, HasFields-fields_word, HasLongFields, HasLongFields-long_word, rs2_of_upper, funct7_of_upper, amount_of_upper, six_of_upper, s_bits, b_bits, u_bits, j_bits, j_upper_of, j_upper_of-lt}
use Rattle.rv64_isa.proofs.RowLemmas.{not_r_imm, IsRow-true, opcode_of_store, opcode_of_branch, opcode_of_load, IsRow-branch, IsRow-load, IsRow-store, IsRow-imm, IsRow-reg, found_branch, found_load, found_store, found_imm, found_reg, opcode_of_imm, opcode_of_reg, form_of_reg}

-- the fields of each form's words
i_fields : (row : Row) (rd rs1 : ℕ) (imm : ℤ) → IsRow row → rd < 32 → rs1 < 32 → FitsIn 12 imm
    → HasFields (i_word row rd rs1 imm) (unsigned_of 12 imm) rs1 row.funct3 rd row.opcode
i_fields row rd rs1 imm is_row rd_fits rs1_fits fits =
    HasFields-fields_word (unsigned_of 12 imm) rs1 row.funct3 rd row.opcode
    (unsigned_of_lt 12 imm fits) rs1_fits is_row.funct3_fits rd_fits is_row.opcode_fits

-- the immediate of a word of the I form
i_immediate : (word : ℕ) (imm : ℤ) → FitsIn 12 imm → bits_of word 31 20 ≡ unsigned_of 12 imm
    → i_immediate_of word ≡ imm
i_immediate word imm fits is = ap (signed_of 12) is ∙ signed_of-unsigned_of 12 imm (omega arith) fits

-- LOAD
load_decoded-of : (word rd rs1 : ℕ) (imm : ℤ) (op : LoadOp) → load_op_at (funct3_of word) ≡ Some op
    → rd_of word ≡ rd → rs1_of word ≡ rs1 → i_immediate_of word ≡ imm
    → load_decoded word ≡ Some (Load op rd rs1 imm)
load_decoded-of word rd rs1 imm op found rd_is rs1_is imm_is =
    let read = λ (op : LoadOp). Load op (rd_of word) (rs1_of word) (i_immediate_of word) in
    ap (option_map read) found ∙ cc

load_back : (op : LoadOp) (rd rs1 : ℕ) (imm : ℤ) → rd < 32 → rs1 < 32 → FitsIn 12 imm
    → decoded (i_word (load_row op) rd rs1 imm) ≡ Some (Load op rd rs1 imm)
unfolding decoded_by
load_back op rd rs1 imm rd_fits rs1_fits fits =
    let word = i_word (load_row op) rd rs1 imm in
    let has = i_fields (load_row op) rd rs1 imm (IsRow-load op) rd_fits rs1_fits fits in
    ap (λ (opcode : ℕ). decoded_by opcode word) (has.opcode_is ∙ opcode_of_load op)
    ∙ load_decoded-of word rd rs1 imm op (ap load_op_at has.funct3_is ∙ found_load op)
    has.rd_is has.rs1_is (i_immediate word imm fits has.upper_is)

-- JALR
jalr_decoded-of : (word rd rs1 : ℕ) (imm : ℤ) → funct3_of word ≡ 0 → rd_of word ≡ rd
    → rs1_of word ≡ rs1 → i_immediate_of word ≡ imm → jalr_decoded word ≡ Some (Jalr rd rs1 imm)
jalr_decoded-of word rd rs1 imm funct3_is rd_is rs1_is imm_is =
    let read = Jalr (rd_of word) (rs1_of word) (i_immediate_of word) in
    ap (λ (funct3 : ℕ). cond (funct3 == 0) (Some read) None) funct3_is ∙ cc

jalr_back : (rd rs1 : ℕ) (imm : ℤ) → rd < 32 → rs1 < 32 → FitsIn 12 imm
    → decoded (i_word jalr_row rd rs1 imm) ≡ Some (Jalr rd rs1 imm)
unfolding decoded_by
jalr_back rd rs1 imm rd_fits rs1_fits fits =
    let word = i_word jalr_row rd rs1 imm in
    let has = i_fields jalr_row rd rs1 imm (IsRow-true jalr_row refl) rd_fits rs1_fits fits in
    ap (λ (opcode : ℕ). decoded_by opcode word) has.opcode_is
    ∙ jalr_decoded-of word rd rs1 imm has.funct3_is has.rd_is has.rs1_is
    (i_immediate word imm fits has.upper_is)

-- STORE
s_fields : (row : Row) (rs1 rs2 : ℕ) (imm : ℤ) → IsRow row → rs1 < 32 → rs2 < 32 → FitsIn 12 imm
    → HasFields (s_word row rs1 rs2 imm) (bits_of (unsigned_of 12 imm) 11 5 * 2 ^ 5 + rs2) rs1
    row.funct3 (bits_of (unsigned_of 12 imm) 4 0) row.opcode
s_fields row rs1 rs2 imm is_row rs1_fits rs2_fits fits =
    let n = unsigned_of 12 imm in
    HasFields-fields_word (bits_of n 11 5 * 2 ^ 5 + rs2) rs1 row.funct3 (bits_of n 4 0) row.opcode
    (omega arith) rs1_fits is_row.funct3_fits (omega arith) is_row.opcode_fits

s_immediate : (word rs2 : ℕ) (imm : ℤ) → FitsIn 12 imm → rs2 < 32
    → bits_of word 31 20 ≡ bits_of (unsigned_of 12 imm) 11 5 * 2 ^ 5 + rs2
    → rd_of word ≡ bits_of (unsigned_of 12 imm) 4 0 → s_immediate_of word ≡ imm
s_immediate word rs2 imm fits rs2_fits upper lower =
    let n = unsigned_of 12 imm in
    let above = funct7_of_upper word (bits_of n 11 5) rs2 upper rs2_fits in
    ap (signed_of 12) (s_bits word n (unsigned_of_lt 12 imm fits) above lower)
    ∙ signed_of-unsigned_of 12 imm (omega arith) fits

store_decoded-of : (word rs1 rs2 : ℕ) (imm : ℤ) (op : StoreOp)
    → store_op_at (funct3_of word) ≡ Some op → rs1_of word ≡ rs1 → rs2_of word ≡ rs2
    → s_immediate_of word ≡ imm → store_decoded word ≡ Some (Store op rs1 rs2 imm)
store_decoded-of word rs1 rs2 imm op found rs1_is rs2_is imm_is =
    let read = λ (op : StoreOp). Store op (rs1_of word) (rs2_of word) (s_immediate_of word) in
    ap (option_map read) found ∙ cc

store_back : (op : StoreOp) (rs1 rs2 : ℕ) (imm : ℤ) → rs1 < 32 → rs2 < 32 → FitsIn 12 imm
    → decoded (s_word (store_row op) rs1 rs2 imm) ≡ Some (Store op rs1 rs2 imm)
unfolding decoded_by
store_back op rs1 rs2 imm rs1_fits rs2_fits fits =
    let word = s_word (store_row op) rs1 rs2 imm in
    let has = s_fields (store_row op) rs1 rs2 imm (IsRow-store op) rs1_fits rs2_fits fits in
    ap (λ (opcode : ℕ). decoded_by opcode word) (has.opcode_is ∙ opcode_of_store op)
    ∙ store_decoded-of word rs1 rs2 imm op (ap store_op_at has.funct3_is ∙ found_store op)
    has.rs1_is (rs2_of_upper word (bits_of (unsigned_of 12 imm) 11 5) rs2 has.upper_is rs2_fits)
    (s_immediate word rs2 imm fits rs2_fits has.upper_is has.rd_is)

-- BRANCH
b_fields : (row : Row) (rs1 rs2 : ℕ) (imm : ℤ) → IsRow row → rs1 < 32 → rs2 < 32
    → HasFields (b_word row rs1 rs2 imm)
    ((bits_of (unsigned_of 13 imm) 12 12 * 2 ^ 6 + bits_of (unsigned_of 13 imm) 10 5) * 2 ^ 5 + rs2)
    rs1 row.funct3
    (bits_of (unsigned_of 13 imm) 4 1 * 2 + bits_of (unsigned_of 13 imm) 11 11) row.opcode
b_fields row rs1 rs2 imm is_row rs1_fits rs2_fits =
    let n = unsigned_of 13 imm in
    let upper = (bits_of n 12 12 * 2 ^ 6 + bits_of n 10 5) * 2 ^ 5 + rs2 in
    HasFields-fields_word upper rs1 row.funct3 (bits_of n 4 1 * 2 + bits_of n 11 11) row.opcode
    (omega arith) rs1_fits is_row.funct3_fits (omega arith) is_row.opcode_fits

b_immediate : (word rs2 : ℕ) (imm : ℤ) → IsStep 13 2 imm → rs2 < 32
    → bits_of word 31 20
    ≡ (bits_of (unsigned_of 13 imm) 12 12 * 2 ^ 6 + bits_of (unsigned_of 13 imm) 10 5) * 2 ^ 5 + rs2
    → rd_of word ≡ bits_of (unsigned_of 13 imm) 4 1 * 2 + bits_of (unsigned_of 13 imm) 11 11
    → b_immediate_of word ≡ imm
b_immediate word rs2 imm is_step rs2_fits upper lower =
    let n = unsigned_of 13 imm in
    let above = funct7_of_upper word (bits_of n 12 12 * 2 ^ 6 + bits_of n 10 5) rs2 upper rs2_fits in
    let even = even-unsigned_of 13 imm (omega arith) is_step.fits is_step.whole in
    ap (signed_of 13) (b_bits word n (unsigned_of_lt 13 imm is_step.fits) even above lower)
    ∙ signed_of-unsigned_of 13 imm (omega arith) is_step.fits

branch_decoded-of : (word rs1 rs2 : ℕ) (imm : ℤ) (op : BranchOp)
    → branch_op_at (funct3_of word) ≡ Some op → rs1_of word ≡ rs1 → rs2_of word ≡ rs2
    → b_immediate_of word ≡ imm → branch_decoded word ≡ Some (Branch op rs1 rs2 imm)
branch_decoded-of word rs1 rs2 imm op found rs1_is rs2_is imm_is =
    let read = λ (op : BranchOp). Branch op (rs1_of word) (rs2_of word) (b_immediate_of word) in
    ap (option_map read) found ∙ cc

branch_back : (op : BranchOp) (rs1 rs2 : ℕ) (imm : ℤ) → rs1 < 32 → rs2 < 32 → IsStep 13 2 imm
    → decoded (b_word (branch_row op) rs1 rs2 imm) ≡ Some (Branch op rs1 rs2 imm)
unfolding decoded_by
branch_back op rs1 rs2 imm rs1_fits rs2_fits is_step =
    let n = unsigned_of 13 imm in
    let word = b_word (branch_row op) rs1 rs2 imm in
    let has = b_fields (branch_row op) rs1 rs2 imm (IsRow-branch op) rs1_fits rs2_fits in
    ap (λ (opcode : ℕ). decoded_by opcode word) (has.opcode_is ∙ opcode_of_branch op)
    ∙ branch_decoded-of word rs1 rs2 imm op (ap branch_op_at has.funct3_is ∙ found_branch op)
    has.rs1_is (rs2_of_upper word (bits_of n 12 12 * 2 ^ 6 + bits_of n 10 5) rs2 has.upper_is rs2_fits)
    (b_immediate word rs2 imm is_step rs2_fits has.upper_is has.rd_is)

-- LUI and AUIPC
u_fields : (opcode rd : ℕ) (imm : ℤ) → opcode < 128 → rd < 32 → FitsIn 32 imm
    → HasLongFields (u_word opcode rd imm) (bits_of (unsigned_of 32 imm) 31 12) rd opcode
u_fields opcode rd imm opcode_fits rd_fits fits =
    HasLongFields-long_word (bits_of (unsigned_of 32 imm) 31 12) rd opcode (omega arith) rd_fits
    opcode_fits

u_immediate : (word : ℕ) (imm : ℤ) → IsStep 32 4096 imm
    → bits_of word 31 12 ≡ bits_of (unsigned_of 32 imm) 31 12 → u_immediate_of word ≡ imm
u_immediate word imm is_step is =
    let whole = whole-unsigned_of imm is_step.fits is_step.whole in
    ap (signed_of 32) (u_bits word (unsigned_of 32 imm) (unsigned_of_lt 32 imm is_step.fits) whole is)
    ∙ signed_of-unsigned_of 32 imm (omega arith) is_step.fits

lui_back : (rd : ℕ) (imm : ℤ) → rd < 32 → IsStep 32 4096 imm
    → decoded (u_word lui rd imm) ≡ Some (Lui rd imm)
unfolding decoded_by
lui_back rd imm rd_fits is_step =
    let word = u_word lui rd imm in
    let has = u_fields lui rd imm (omega arith) rd_fits is_step.fits in
    let imm_is = u_immediate word imm is_step has.upper_is in
    ap (λ (opcode : ℕ). decoded_by opcode word) has.opcode_is
    ∙ ap (λ (rd : ℕ). Some (Lui rd (u_immediate_of word))) has.rd_is
    ∙ ap (λ (imm : ℤ). Some (Lui rd imm)) imm_is

auipc_back : (rd : ℕ) (imm : ℤ) → rd < 32 → IsStep 32 4096 imm
    → decoded (u_word auipc rd imm) ≡ Some (Auipc rd imm)
unfolding decoded_by
auipc_back rd imm rd_fits is_step =
    let word = u_word auipc rd imm in
    let has = u_fields auipc rd imm (omega arith) rd_fits is_step.fits in
    let imm_is = u_immediate word imm is_step has.upper_is in
    ap (λ (opcode : ℕ). decoded_by opcode word) has.opcode_is
    ∙ ap (λ (rd : ℕ). Some (Auipc rd (u_immediate_of word))) has.rd_is
    ∙ ap (λ (imm : ℤ). Some (Auipc rd imm)) imm_is

-- JAL
j_fields : (opcode rd : ℕ) (imm : ℤ) → opcode < 128 → rd < 32
    → HasLongFields (j_word opcode rd imm) (j_upper_of (unsigned_of 21 imm)) rd opcode
j_fields opcode rd imm opcode_fits rd_fits =
    HasLongFields-long_word (j_upper_of (unsigned_of 21 imm)) rd opcode
    (j_upper_of-lt (unsigned_of 21 imm)) rd_fits opcode_fits

j_immediate : (word : ℕ) (imm : ℤ) → IsStep 21 2 imm
    → bits_of word 31 12 ≡ j_upper_of (unsigned_of 21 imm) → j_immediate_of word ≡ imm
j_immediate word imm is_step is =
    let even = even-unsigned_of 21 imm (omega arith) is_step.fits is_step.whole in
    ap (signed_of 21) (j_bits word (unsigned_of 21 imm) (unsigned_of_lt 21 imm is_step.fits) even is)
    ∙ signed_of-unsigned_of 21 imm (omega arith) is_step.fits

jal_back : (rd : ℕ) (imm : ℤ) → rd < 32 → IsStep 21 2 imm
    → decoded (j_word jal rd imm) ≡ Some (Jal rd imm)
unfolding decoded_by
jal_back rd imm rd_fits is_step =
    let word = j_word jal rd imm in
    let has = j_fields jal rd imm (omega arith) rd_fits in
    let imm_is = j_immediate word imm is_step has.upper_is in
    ap (λ (opcode : ℕ). decoded_by opcode word) has.opcode_is
    ∙ ap (λ (rd : ℕ). Some (Jal rd (j_immediate_of word))) has.rd_is
    ∙ ap (λ (imm : ℤ). Some (Jal rd imm)) imm_is

-- OP and OP-32
r_fields : (row : Row) (rd rs1 rs2 : ℕ) → IsRow row → row.form ≡ R → rd < 32 → rs1 < 32 → rs2 < 32
    → HasFields (r_word row rd rs1 rs2) (row.upper * 2 ^ 5 + rs2) rs1 row.funct3 rd row.opcode
r_fields row rd rs1 rs2 is_row in_r rd_fits rs1_fits rs2_fits =
    let upper_fits : row.upper ≤ 127 = subst (λ (form : Form). row.upper ≤ upper_of form 127) in_r is_row.upper_fits in
    HasFields-fields_word (row.upper * 2 ^ 5 + rs2) rs1 row.funct3 rd row.opcode
    (omega arith) rs1_fits is_row.funct3_fits rd_fits is_row.opcode_fits

reg_decoded-of : (word rd rs1 rs2 : ℕ) (op : RegOp)
    → reg_op_at (opcode_of word) (funct3_of word) (funct7_of word) ≡ Some op
    → rd_of word ≡ rd → rs1_of word ≡ rs1 → rs2_of word ≡ rs2
    → reg_decoded word ≡ Some (Op op rd rs1 rs2)
reg_decoded-of word rd rs1 rs2 op found rd_is rs1_is rs2_is =
    let read = λ (op : RegOp). Op op (rd_of word) (rs1_of word) (rs2_of word) in
    ap (option_map read) found ∙ cc

-- a word of either opcode is read alike
decoded_by-reg : (opcode word : ℕ) → (opcode ≡ op) ⊎ (opcode ≡ op_32)
    → decoded_by opcode word ≡ reg_decoded word
unfolding decoded_by
decoded_by-reg opcode word (inl e) = ap (λ (opcode : ℕ). decoded_by opcode word) e
decoded_by-reg opcode word (inr e) = ap (λ (opcode : ℕ). decoded_by opcode word) e

reg_back : (op : RegOp) (rd rs1 rs2 : ℕ) → rd < 32 → rs1 < 32 → rs2 < 32
    → decoded (r_word (reg_row op) rd rs1 rs2) ≡ Some (Op op rd rs1 rs2)
reg_back op rd rs1 rs2 rd_fits rs1_fits rs2_fits =
    let word = r_word (reg_row op) rd rs1 rs2 in
    let has = r_fields (reg_row op) rd rs1 rs2 (IsRow-reg op) (form_of_reg op) rd_fits rs1_fits rs2_fits in
    let upper_is = funct7_of_upper word (reg_row op).upper rs2 has.upper_is rs2_fits in
    let found : reg_op_at (opcode_of word) (funct3_of word) (funct7_of word) ≡ Some op =
    ap (λ (opcode : ℕ). reg_op_at opcode (funct3_of word) (funct7_of word)) has.opcode_is
    ∙ ap (λ (funct3 : ℕ). reg_op_at (reg_row op).opcode funct3 (funct7_of word)) has.funct3_is
    ∙ ap (λ (funct7 : ℕ). reg_op_at (reg_row op).opcode (reg_row op).funct3 funct7) upper_is
    ∙ found_reg op in
    ap (λ (opcode : ℕ). decoded_by opcode word) has.opcode_is
    ∙ decoded_by-reg (reg_row op).opcode word (opcode_of_reg op)
    ∙ reg_decoded-of word rd rs1 rs2 op found has.rd_is has.rs1_is
    (rs2_of_upper word (reg_row op).upper rs2 has.upper_is rs2_fits)

-- OP-IMM and OP-IMM-32: bits 31 to 20, by the form
upper_by-lt : (form : Form) (upper : ℕ) (imm : ℤ) → upper ≤ upper_of form 127 → IsImmInRange form imm
    → upper_by form upper imm < 2 ^ 12
upper_by-lt Shift upper (pos n) upper_fits range = omega (arith, ints)
upper_by-lt Shift upper (negsuc n) upper_fits range = absurd (omega (arith, ints))
upper_by-lt WordShift upper (pos n) upper_fits range = omega (arith, ints)
upper_by-lt WordShift upper (negsuc n) upper_fits range = absurd (omega (arith, ints))
upper_by-lt _ upper imm upper_fits range = unsigned_of_lt 12 imm range

immediate_by-upper_by : (form : Form) (upper word : ℕ) (imm : ℤ) → IsImmInRange form imm
    → bits_of word 31 20 ≡ upper_by form upper imm → immediate_by form word ≡ imm
immediate_by-upper_by Shift upper word (pos n) range is =
    let fits : n < 2 ^ 6 = omega (arith, ints) in
    ap pos (amount_of_upper word upper n is fits)
immediate_by-upper_by Shift upper word (negsuc n) range is = absurd (omega (arith, ints))
immediate_by-upper_by WordShift upper word (pos n) range is =
    let fits : n < 2 ^ 5 = omega (arith, ints) in
    ap pos (rs2_of_upper word upper n is fits)
immediate_by-upper_by WordShift upper word (negsuc n) range is = absurd (omega (arith, ints))
immediate_by-upper_by _ upper word imm range is = i_immediate word imm range is

-- the upper bits of the word are the row's
upper_of-upper_by : (form : Form) (upper word : ℕ) (imm : ℤ) → form ≢ R → upper ≤ upper_of form 127
    → IsImmInRange form imm → bits_of word 31 20 ≡ upper_by form upper imm
    → upper ≡ upper_of form (funct7_of word)
upper_of-upper_by R upper word imm not_r fits range is = absurd (not_r refl)
upper_of-upper_by Shift upper word (pos n) not_r fits range is =
    let below : n < 2 ^ 6 = omega (arith, ints) in
    sym (six_of_upper word upper n is below)
upper_of-upper_by Shift upper word (negsuc n) not_r fits range is = absurd (omega (arith, ints))
upper_of-upper_by WordShift upper word (pos n) not_r fits range is =
    let below : n < 2 ^ 5 = omega (arith, ints) in
    sym (funct7_of_upper word upper n is below)
upper_of-upper_by WordShift upper word (negsuc n) not_r fits range is = absurd (omega (arith, ints))
upper_of-upper_by _ upper word imm not_r fits range is = omega arith

imm_fields : (row : Row) (rd rs1 : ℕ) (imm : ℤ) → IsRow row → rd < 32 → rs1 < 32
    → IsImmInRange row.form imm
    → HasFields (imm_word row rd rs1 imm) (upper_by row.form row.upper imm) rs1 row.funct3 rd
    row.opcode
imm_fields row rd rs1 imm is_row rd_fits rs1_fits range =
    HasFields-fields_word (upper_by row.form row.upper imm) rs1 row.funct3 rd row.opcode
    (upper_by-lt row.form row.upper imm is_row.upper_fits range) rs1_fits is_row.funct3_fits rd_fits
    is_row.opcode_fits

imm_decoded-of : (word rd rs1 : ℕ) (imm : ℤ) (op : ImmOp)
    → imm_op_at (opcode_of word) (funct3_of word) (funct7_of word) ≡ Some op
    → rd_of word ≡ rd → rs1_of word ≡ rs1 → immediate_by (imm_row op).form word ≡ imm
    → imm_decoded word ≡ Some (Imm op rd rs1 imm)
imm_decoded-of word rd rs1 imm op found rd_is rs1_is imm_is =
    let read = λ (op : ImmOp). Imm op (rd_of word) (rs1_of word) (immediate_by (imm_row op).form word) in
    ap (option_map read) found
    ∙ ap (λ (rd : ℕ). Some (Imm op rd (rs1_of word) (immediate_by (imm_row op).form word))) rd_is
    ∙ ap (λ (rs1 : ℕ). Some (Imm op rd rs1 (immediate_by (imm_row op).form word))) rs1_is
    ∙ ap (λ (imm : ℤ). Some (Imm op rd rs1 imm)) imm_is

decoded_by-imm : (opcode word : ℕ) → (opcode ≡ op_imm) ⊎ (opcode ≡ op_imm_32)
    → decoded_by opcode word ≡ imm_decoded word
unfolding decoded_by
decoded_by-imm opcode word (inl e) = ap (λ (opcode : ℕ). decoded_by opcode word) e
decoded_by-imm opcode word (inr e) = ap (λ (opcode : ℕ). decoded_by opcode word) e

imm_back : (op : ImmOp) (rd rs1 : ℕ) (imm : ℤ) → rd < 32 → rs1 < 32
    → IsImmInRange (imm_row op).form imm
    → decoded (imm_word (imm_row op) rd rs1 imm) ≡ Some (Imm op rd rs1 imm)
imm_back op rd rs1 imm rd_fits rs1_fits range =
    let row = imm_row op in
    let word = imm_word row rd rs1 imm in
    let has = imm_fields row rd rs1 imm (IsRow-imm op) rd_fits rs1_fits range in
    let upper_is = upper_of-upper_by row.form row.upper word imm (not_r_imm op)
    (IsRow-imm op).upper_fits range has.upper_is in
    let found : imm_op_at (opcode_of word) (funct3_of word) (funct7_of word) ≡ Some op =
    ap (λ (opcode : ℕ). imm_op_at opcode (funct3_of word) (funct7_of word)) has.opcode_is
    ∙ ap (λ (funct3 : ℕ). imm_op_at row.opcode funct3 (funct7_of word)) has.funct3_is
    ∙ found_imm op (funct7_of word) upper_is in
    ap (λ (opcode : ℕ). decoded_by opcode word) has.opcode_is
    ∙ decoded_by-imm row.opcode word (opcode_of_imm op)
    ∙ imm_decoded-of word rd rs1 imm op found has.rd_is has.rs1_is
    (immediate_by-upper_by row.form row.upper word imm range has.upper_is)

-- FENCE
fence_back : (word : ℕ) → IsFence word → decoded word ≡ Some (Fence word)
unfolding decoded_by
fence_back word is =
    ap (λ (opcode : ℕ). decoded_by opcode word) is.in_misc_mem
    ∙ ap (λ (funct3 : ℕ). cond (funct3 == 0) (Some (Fence word)) None) is.ordinary

-- each instruction
pub decoded-word_of : (i : Instr) → HasRegisters i → IsInRange i → decoded (word_of i) ≡ Some i
unfolding word_of decoded_by
decoded-word_of (Lui rd imm) registers range = lui_back rd imm registers range
decoded-word_of (Auipc rd imm) registers range = auipc_back rd imm registers range
decoded-word_of (Jal rd imm) registers range = jal_back rd imm registers range
decoded-word_of (Jalr rd rs1 imm) registers range =
    jalr_back rd rs1 imm registers.0 registers.1 range
decoded-word_of (Branch op rs1 rs2 imm) registers range =
    branch_back op rs1 rs2 imm registers.0 registers.1 range
decoded-word_of (Load op rd rs1 imm) registers range =
    load_back op rd rs1 imm registers.0 registers.1 range
decoded-word_of (Store op rs1 rs2 imm) registers range =
    store_back op rs1 rs2 imm registers.0 registers.1 range
decoded-word_of (Imm op rd rs1 imm) registers range =
    imm_back op rd rs1 imm registers.0 registers.1 range
decoded-word_of (Op op rd rs1 rs2) registers range =
    reg_back op rd rs1 rs2 registers.0 registers.1 registers.2
decoded-word_of (Fence word) registers range = fence_back word range
decoded-word_of _ registers range = refl

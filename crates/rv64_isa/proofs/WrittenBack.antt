-- What a word's instruction is encoded as: the word.
use Rattle.std.proofs.Common.{◌≡◌, ℕ, ◌+◌, ◌*◌, ◌^◌, ◌<◌, Bool, true, false, Option, Some, None, refl, ap, sym, ◌∙◌, arith, option_map, cond, ◌==◌, IfSome, eqb-true}
use Rattle.std.proofs.lemmas.Int.{ints}
use Rattle.rv64_isa.specs.Bits.{bits_of}
use Rattle.rv64_isa.specs.Decoded.{decoded, decoded_by, jalr_decoded, branch_decoded, load_decoded, store_decoded, imm_decoded, reg_decoded, fence_decoded, system_decoded, immediate_by}
use Rattle.rv64_isa.specs.Encoded.{word_of, r_word, i_word, imm_word, s_word, b_word, u_word, j_word, upper_by}
use Rattle.rv64_isa.specs.Fields.{opcode_of, rd_of, funct3_of, rs1_of, rs2_of, funct7_of, i_immediate_of, s_immediate_of, b_immediate_of, u_immediate_of, j_immediate_of}
use Rattle.rv64_isa.specs.Opcode.{lui, auipc, jal, jalr, branch, load, store, op_imm, op_imm_32, op, op_32, misc_mem, system, ecall_word, ebreak_word}
use Rattle.rv64_isa.specs.Rows.{upper_of, jalr_row, branch_row, load_row, store_row, imm_row, reg_row, branch_op_at, load_op_at, store_op_at, imm_op_at, reg_op_at}
use Rattle.rv64_isa.specs.Signed.{signed_of, unsigned_of, FitsIn}
use Rattle.rv64_isa.specs.Valid.{IsInRange, IsStep, IsImmInRange}
use Rattle.rv64_isa.specs.declared.row.Row.{Row}
use Rattle.rv64_isa.specs.declared.row.Form.{Form}
use Rattle.rv64_isa.specs.declared.row.Form.TheVariants.{B, Shift, WordShift}
use Rattle.rv64_isa.specs.declared.instruction.BranchOp.{BranchOp}
use Rattle.rv64_isa.specs.declared.instruction.LoadOp.{LoadOp}
use Rattle.rv64_isa.specs.declared.instruction.StoreOp.{StoreOp}
use Rattle.rv64_isa.specs.declared.instruction.ImmOp.{ImmOp}
use Rattle.rv64_isa.specs.declared.instruction.RegOp.{RegOp}
use Rattle.rv64_isa.specs.declared.instruction.Instr.{Instr}
use Rattle.rv64_isa.specs.declared.instruction.Instr.TheVariants.{Jalr, Branch, Load, Store, Imm, Op, Fence, Ecall, Ebreak}
use Rattle.rv64_isa.proofs.Immediates.{unsigned_of-signed_of, FitsIn-signed_of, even-signed_of, whole-signed_of}
use Rattle.rv64_isa.proofs.Layouts.{fields_word-fields, long_word-fields, seven_above, six_above, s_upper, s_lower, b_bits_of, b_upper, b_lower, b_bits_of-lt, u_upper, j_bits_of, j_upper_of, j_upper, j_bits_of-lt}
use Rattle.rv64_isa.proofs.RowLemmas.{IsRowOf-branch, IsRowOf-load, IsRowOf-store, IsRowOf-imm, IsRowOf-reg, form_of_reg}

-- the instruction is one that has a word, and this is its word
pub record IsSpelled (word : ℕ) (i : Instr) : Type 0 where
  pub in_range : IsInRange i
  pub word_is : word_of i ≡ word

-- what holds of the value, by the parts
IfSome-option_map : {A B : Type 0} (f : A → B) (P : B → Type 0) (o : Option A)
    → ((x : A) → o ≡ Some x → P (f x)) → IfSome (option_map f o) P
IfSome-option_map f P None each = tt
IfSome-option_map f P (Some x) each = each x refl

IfSome-cond : {A : Type 0} (P : A → Type 0) (test : Bool) (o rest : Option A)
    → (test ≡ true → IfSome o P) → IfSome rest P → IfSome (cond test o rest) P
IfSome-cond P true o rest first later = first refl
IfSome-cond P false o rest first later = later

-- where an opcode, a funct3 or a word is this number
IfSome-at : {A : Type 0} (P : A → Type 0) (n m : ℕ) (o rest : Option A)
    → (n ≡ m → IfSome o P) → IfSome rest P → IfSome (cond (n == m) o rest) P
IfSome-at P n m o rest first later =
    IfSome-cond P (n == m) o rest (λ same. first (eqb-true n m same)) later

-- the I form
i_spelled : (row : Row) (word : ℕ) → word < 2 ^ 32 → row.funct3 ≡ funct3_of word
    → row.opcode ≡ opcode_of word
    → i_word row (rd_of word) (rs1_of word) (i_immediate_of word) ≡ word
i_spelled row word fits funct3_is opcode_is =
    let n = bits_of word 31 20 in
    let upper_is = unsigned_of-signed_of 12 n (omega arith) (omega arith) in
    fields_word-fields word (unsigned_of 12 (signed_of 12 n)) (rs1_of word) row.funct3 (rd_of word)
    row.opcode fits
    (record {
      upper_is = sym upper_is;
      rs1_is = refl;
      funct3_is = sym funct3_is;
      rd_is = refl;
      opcode_is = sym opcode_is;
    })

i_fits : (word : ℕ) → FitsIn 12 (i_immediate_of word)
i_fits word = FitsIn-signed_of 12 (bits_of word 31 20) (omega arith) (omega arith)

-- JALR
jalr_spelled : (word : ℕ) → word < 2 ^ 32 → opcode_of word ≡ jalr
    → IfSome (jalr_decoded word) (IsSpelled word)
unfolding word_of
jalr_spelled word fits in_jalr =
    IfSome-at (IsSpelled word) (funct3_of word) 0
    (Some (Jalr (rd_of word) (rs1_of word) (i_immediate_of word))) None
    (λ funct3_is. record {
      in_range = i_fits word;
      word_is = i_spelled jalr_row word fits (sym funct3_is) (sym in_jalr);
    }) tt

-- LOAD
load_spelled : (word : ℕ) → word < 2 ^ 32 → opcode_of word ≡ load
    → IfSome (load_decoded word) (IsSpelled word)
unfolding word_of
load_spelled word fits in_load =
    IfSome-option_map (λ (op : LoadOp). Load op (rd_of word) (rs1_of word) (i_immediate_of word))
    (IsSpelled word) (load_op_at (funct3_of word))
    (λ op found.
    let is = IsRowOf-load (funct3_of word) op found in
    record {
      in_range = i_fits word;
      word_is = i_spelled (load_row op) word fits is.funct3_is (is.opcode_is ∙ sym in_load);
    })

-- STORE
s_spelled : (row : Row) (word : ℕ) → word < 2 ^ 32 → row.funct3 ≡ funct3_of word
    → row.opcode ≡ opcode_of word
    → s_word row (rs1_of word) (rs2_of word) (s_immediate_of word) ≡ word
s_spelled row word fits funct3_is opcode_is =
    let bits = bits_of word 31 25 * 2 ^ 5 + bits_of word 11 7 in
    let n = unsigned_of 12 (signed_of 12 bits) in
    let same : n ≡ bits = unsigned_of-signed_of 12 bits (omega arith) (omega arith) in
    fields_word-fields word (bits_of n 11 5 * 2 ^ 5 + rs2_of word) (rs1_of word) row.funct3
    (bits_of n 4 0) row.opcode fits
    (record {
      upper_is = sym (s_upper word n same);
      rs1_is = refl;
      funct3_is = sym funct3_is;
      rd_is = sym (s_lower word n same);
      opcode_is = sym opcode_is;
    })

store_spelled : (word : ℕ) → word < 2 ^ 32 → opcode_of word ≡ store
    → IfSome (store_decoded word) (IsSpelled word)
unfolding word_of
store_spelled word fits in_store =
    let bits = bits_of word 31 25 * 2 ^ 5 + bits_of word 11 7 in
    IfSome-option_map (λ (op : StoreOp). Store op (rs1_of word) (rs2_of word) (s_immediate_of word))
    (IsSpelled word) (store_op_at (funct3_of word))
    (λ op found.
    let is = IsRowOf-store (funct3_of word) op found in
    record {
      in_range = FitsIn-signed_of 12 bits (omega arith) (omega arith);
      word_is = s_spelled (store_row op) word fits is.funct3_is (is.opcode_is ∙ sym in_store);
    })

-- BRANCH
b_spelled : (row : Row) (word : ℕ) → word < 2 ^ 32 → row.funct3 ≡ funct3_of word
    → row.opcode ≡ opcode_of word
    → b_word row (rs1_of word) (rs2_of word) (b_immediate_of word) ≡ word
b_spelled row word fits funct3_is opcode_is =
    let n = unsigned_of 13 (signed_of 13 (b_bits_of word)) in
    let same : n ≡ b_bits_of word =
    unsigned_of-signed_of 13 (b_bits_of word) (omega arith) (b_bits_of-lt word) in
    fields_word-fields word ((bits_of n 12 12 * 2 ^ 6 + bits_of n 10 5) * 2 ^ 5 + rs2_of word)
    (rs1_of word) row.funct3 (bits_of n 4 1 * 2 + bits_of n 11 11) row.opcode fits
    (record {
      upper_is = sym (b_upper word n same);
      rs1_is = refl;
      funct3_is = sym funct3_is;
      rd_is = sym (b_lower word n same);
      opcode_is = sym opcode_is;
    })

b_step : (word : ℕ) → IsStep 13 2 (b_immediate_of word)
b_step word =
    let bits = b_bits_of word in
    record {
      fits = FitsIn-signed_of 13 bits (omega arith) (b_bits_of-lt word);
      whole = even-signed_of 13 bits (omega arith) (b_bits_of-lt word) (omega arith);
    }

branch_spelled : (word : ℕ) → word < 2 ^ 32 → opcode_of word ≡ branch
    → IfSome (branch_decoded word) (IsSpelled word)
unfolding word_of
branch_spelled word fits in_branch =
    IfSome-option_map (λ (op : BranchOp). Branch op (rs1_of word) (rs2_of word) (b_immediate_of word))
    (IsSpelled word) (branch_op_at (funct3_of word))
    (λ op found.
    let is = IsRowOf-branch (funct3_of word) op found in
    record {
      in_range = b_step word;
      word_is = b_spelled (branch_row op) word fits is.funct3_is (is.opcode_is ∙ sym in_branch);
    })

-- LUI and AUIPC
u_spelled : (opcode word : ℕ) → word < 2 ^ 32 → opcode_of word ≡ opcode
    → u_word opcode (rd_of word) (u_immediate_of word) ≡ word
u_spelled opcode word fits opcode_is =
    let bits = bits_of word 31 12 * 2 ^ 12 in
    let n = unsigned_of 32 (signed_of 32 bits) in
    let same : n ≡ bits = unsigned_of-signed_of 32 bits (omega arith) (omega arith) in
    long_word-fields word (bits_of n 31 12) (rd_of word) opcode fits
    (record { upper_is = sym (u_upper word n same); rd_is = refl; opcode_is = opcode_is })

u_step : (word : ℕ) → IsStep 32 4096 (u_immediate_of word)
u_step word =
    let bits = bits_of word 31 12 * 2 ^ 12 in
    record {
      fits = FitsIn-signed_of 32 bits (omega arith) (omega arith);
      whole = whole-signed_of bits (omega arith) (omega arith);
    }

-- JAL
j_spelled : (opcode word : ℕ) → word < 2 ^ 32 → opcode_of word ≡ opcode
    → j_word opcode (rd_of word) (j_immediate_of word) ≡ word
j_spelled opcode word fits opcode_is =
    let n = unsigned_of 21 (signed_of 21 (j_bits_of word)) in
    let same : n ≡ j_bits_of word =
    unsigned_of-signed_of 21 (j_bits_of word) (omega arith) (j_bits_of-lt word) in
    long_word-fields word (j_upper_of n) (rd_of word) opcode fits
    (record { upper_is = sym (j_upper word n same); rd_is = refl; opcode_is = opcode_is })

j_step : (word : ℕ) → IsStep 21 2 (j_immediate_of word)
j_step word =
    let bits = j_bits_of word in
    record {
      fits = FitsIn-signed_of 21 bits (omega arith) (j_bits_of-lt word);
      whole = even-signed_of 21 bits (omega arith) (j_bits_of-lt word) (omega arith);
    }

-- OP and OP-32
r_spelled : (row : Row) (word : ℕ) → word < 2 ^ 32 → row.upper ≡ funct7_of word
    → row.funct3 ≡ funct3_of word → row.opcode ≡ opcode_of word
    → r_word row (rd_of word) (rs1_of word) (rs2_of word) ≡ word
r_spelled row word fits upper_is funct3_is opcode_is =
    let above = ap (λ (upper : ℕ). upper * 2 ^ 5 + rs2_of word) upper_is ∙ seven_above word in
    fields_word-fields word (row.upper * 2 ^ 5 + rs2_of word) (rs1_of word) row.funct3 (rd_of word)
    row.opcode fits
    (record {
      upper_is = sym above;
      rs1_is = refl;
      funct3_is = sym funct3_is;
      rd_is = refl;
      opcode_is = sym opcode_is;
    })

reg_spelled : (word : ℕ) → word < 2 ^ 32 → IfSome (reg_decoded word) (IsSpelled word)
unfolding word_of
reg_spelled word fits =
    IfSome-option_map (λ (op : RegOp). Op op (rd_of word) (rs1_of word) (rs2_of word))
    (IsSpelled word) (reg_op_at (opcode_of word) (funct3_of word) (funct7_of word))
    (λ op found.
    let is = IsRowOf-reg (opcode_of word) (funct3_of word) (funct7_of word) op found in
    let upper_is = is.upper_is ∙ ap (λ (form : Form). upper_of form (funct7_of word)) (form_of_reg op) in
    record {
      in_range = tt;
      word_is = r_spelled (reg_row op) word fits upper_is is.funct3_is is.opcode_is;
    })

-- OP-IMM and OP-IMM-32
upper_by-immediate_by : (form : Form) (upper word : ℕ) → upper ≡ upper_of form (funct7_of word)
    → upper_by form upper (immediate_by form word) ≡ bits_of word 31 20
upper_by-immediate_by Shift upper word is =
    ap (λ (upper : ℕ). upper * 2 ^ 6 + bits_of word 25 20) is ∙ six_above word
upper_by-immediate_by WordShift upper word is =
    ap (λ (upper : ℕ). upper * 2 ^ 5 + bits_of word 24 20) is ∙ seven_above word
upper_by-immediate_by _ upper word is =
    unsigned_of-signed_of 12 (bits_of word 31 20) (omega arith) (omega arith)

IsImmInRange-immediate_by : (form : Form) (word : ℕ) → IsImmInRange form (immediate_by form word)
IsImmInRange-immediate_by Shift word =
    record { at_least = omega (arith, ints); at_most = omega (arith, ints) }
IsImmInRange-immediate_by WordShift word =
    record { at_least = omega (arith, ints); at_most = omega (arith, ints) }
IsImmInRange-immediate_by _ word = i_fits word

imm_row_spelled : (row : Row) (word : ℕ) → word < 2 ^ 32
    → row.upper ≡ upper_of row.form (funct7_of word)
    → row.funct3 ≡ funct3_of word → row.opcode ≡ opcode_of word
    → imm_word row (rd_of word) (rs1_of word) (immediate_by row.form word) ≡ word
imm_row_spelled row word fits upper_is funct3_is opcode_is =
    fields_word-fields word (upper_by row.form row.upper (immediate_by row.form word)) (rs1_of word)
    row.funct3 (rd_of word) row.opcode fits
    (record {
      upper_is = sym (upper_by-immediate_by row.form row.upper word upper_is);
      rs1_is = refl;
      funct3_is = sym funct3_is;
      rd_is = refl;
      opcode_is = sym opcode_is;
    })

imm_spelled : (word : ℕ) → word < 2 ^ 32 → IfSome (imm_decoded word) (IsSpelled word)
unfolding word_of
imm_spelled word fits =
    IfSome-option_map
    (λ (op : ImmOp). Imm op (rd_of word) (rs1_of word) (immediate_by (imm_row op).form word))
    (IsSpelled word) (imm_op_at (opcode_of word) (funct3_of word) (funct7_of word))
    (λ op found.
    let is = IsRowOf-imm (opcode_of word) (funct3_of word) (funct7_of word) op found in
    record {
      in_range = IsImmInRange-immediate_by (imm_row op).form word;
      word_is = imm_row_spelled (imm_row op) word fits is.upper_is is.funct3_is is.opcode_is;
    })

-- MISC-MEM
fence_spelled : (word : ℕ) → opcode_of word ≡ misc_mem → IfSome (fence_decoded word) (IsSpelled word)
unfolding word_of
fence_spelled word in_misc_mem =
    IfSome-at (IsSpelled word) (funct3_of word) 0 (Some (Fence word)) None
    (λ ordinary. record {
      in_range = record { in_misc_mem = in_misc_mem; ordinary = ordinary };
      word_is = refl;
    }) tt

-- SYSTEM
system_spelled : (word : ℕ) → IfSome (system_decoded word) (IsSpelled word)
unfolding word_of
system_spelled word =
    IfSome-at (IsSpelled word) word ecall_word (Some Ecall) _
    (λ same. record { in_range = tt; word_is = sym same })
    (IfSome-at (IsSpelled word) word ebreak_word (Some Ebreak) None
    (λ same. record { in_range = tt; word_is = sym same }) tt)

-- each word
pub IsSpelled-decoded : (word : ℕ) → word < 2 ^ 32 → IfSome (decoded word) (IsSpelled word)
unfolding word_of decoded_by
IsSpelled-decoded word fits =
    let P = IsSpelled word in
    let opcode = opcode_of word in
    IfSome-at P opcode lui _ _ (λ e. record { in_range = u_step word; word_is = u_spelled lui word fits e })
    (IfSome-at P opcode auipc _ _ (λ e. record { in_range = u_step word; word_is = u_spelled auipc word fits e })
    (IfSome-at P opcode jal _ _ (λ e. record { in_range = j_step word; word_is = j_spelled jal word fits e })
    (IfSome-at P opcode jalr _ _ (λ e. jalr_spelled word fits e)
    (IfSome-at P opcode branch _ _ (λ e. branch_spelled word fits e)
    (IfSome-at P opcode load _ _ (λ e. load_spelled word fits e)
    (IfSome-at P opcode store _ _ (λ e. store_spelled word fits e)
    (IfSome-at P opcode op_imm _ _ (λ e. imm_spelled word fits)
    (IfSome-at P opcode op_imm_32 _ _ (λ e. imm_spelled word fits)
    (IfSome-at P opcode op _ _ (λ e. reg_spelled word fits)
    (IfSome-at P opcode op_32 _ _ (λ e. reg_spelled word fits)
    (IfSome-at P opcode misc_mem _ _ (λ e. fence_spelled word e)
    (IfSome-at P opcode system _ _ (λ e. system_spelled word) tt))))))))))))

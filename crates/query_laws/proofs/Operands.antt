-- The operands of a linkage are bytes of registers, and of what an instruction loads.
use Rattle.std.proofs.lemmas.Grind.{common_steps}
use Rattle.std.proofs.Common.{◌≡◌, ℕ, zero, suc, ◌-◌, ◌<◌, ◌≤◌, ◌++◌, nat_lt, Bool, true, false, if◌then◌else◌, List, [], ◌∷◌, map, ℤ, arith, refl, ltb-true}
use Rattle.std.proofs.lemmas.Bool.Decides.{nat_tests}
use Rattle.std.specs.List.{AllByRecursion}
use Rattle.rv64_isa.specs.declared.instruction.ImmOp.{ImmOp}
use Rattle.rv64_isa.specs.declared.instruction.ImmOp.TheVariants.{Addi}
use Rattle.rv64_isa.specs.declared.instruction.Instr.{Instr}
use Rattle.rv64_isa.specs.declared.instruction.Instr.TheVariants.{Load, Store, Imm, Op}
use Rattle.rv64_isa.specs.declared.instruction.LoadOp.{LoadOp}
use Rattle.rv64_isa.specs.declared.instruction.RegOp.{RegOp}
use Rattle.rv64_isa.specs.declared.instruction.RegOp.TheVariants.{Add}
use Rattle.rv64_isa.specs.declared.instruction.StoreOp.{StoreOp}
use Rattle.rv64_model.specs.Carries.{Operand, Left, Right, Loaded, Address, Rule, below, by_rule, copy_operands, data_operands, extended_from, first_bytes, imm_copies, imm_takes, index_operands, is_zero, load_takes, of_left, op_takes, operands, rule_of, taken_if, unless_x0, width_of, with_address, within_width}
use Rattle.rv64_model.specs.declared.linkage.Linkage.{Linkage}
use Rattle.rv64_model.specs.Operands.{store_len, stored_len}
use Rattle.rv64_model.specs.Values.{reg_op}
use Rattle.taint_flow.specs.Names.{loaded_len}
use Rattle.query_laws.proofs.Items.{all-append}

-- byte 0 to 7 of a register, or a byte of what is loaded
abbrev pub IsByteOf : Instr → Operand → Type 0
IsByteOf instr (Left i) = i < 8
IsByteOf instr (Right i) = i < 8
IsByteOf instr (Address i) = i < 8
IsByteOf instr (Loaded k) = k < loaded_len instr

abbrev pub AreBytes : Instr → List Operand → Type 0
AreBytes instr ops = AllByRecursion (IsByteOf instr) ops

module _ (instr : Instr) where
  taken-if : (b : Bool) (o : Operand) → (b ≡ true → IsByteOf instr o) → AreBytes instr (taken_if b o)
  taken-if true o h = (h refl, tt)
  taken-if false o h = tt

  unless-x0 : (rd : ℕ) (ops : List Operand) → AreBytes instr ops → AreBytes instr (unless_x0 rd ops)
  unless-x0 zero ops h = tt
  unless-x0 (suc rd) ops h = h

  mapped-push : (f : ℕ → Operand) (ks : List ℕ) (n : ℕ) → AreBytes instr (map f ks) → IsByteOf instr (f n) → AreBytes instr (map f (ks ++ n ∷ []))
  mapped-push f [] n a b = (b, tt)
  mapped-push f (k ∷ ks) n a b = (a.0, mapped-push f ks n a.1 b)

  first-ones : (f : ℕ → Operand) → ((k : ℕ) → k < 8 → IsByteOf instr (f k)) → (n : ℕ) → n ≤ 8 → AreBytes instr (first_bytes f n)
  first-ones f h zero le = tt
  first-ones f h (suc n) le = mapped-push f (below n) n (first-ones f h n (omega (arith, le))) (h n (omega (arith, le)))

  by-rule : (rule : Rule) (width i : ℕ) → width ≤ 8 → i < 8 → AreBytes instr (by_rule rule width i)
  by-rule rule width i h1 h2 = grind (arith, common_steps, nat_tests, all-append, first-ones)

  width-low : (op : RegOp) → width_of op ≤ 8
  width-low op = grind (arith, nat_tests)

  within-low : (width i : ℕ) → width ≤ 8 → i < 8 → within_width width i < 8
  within-low width i h1 h2 = grind (arith, nat_tests)

  op-takes : (op : RegOp) (i : ℕ) → i < 8 → AreBytes instr (op_takes op i)
  op-takes op i l = by-rule (rule_of op) (width_of op) (within_width (width_of op) i) (width-low op) (within-low (width_of op) i (width-low op) l)

  of-left : (ops : List Operand) → AreBytes instr ops → AreBytes instr (of_left ops)
  of-left [] h = tt
  of-left (Left i ∷ ops) h = (h.0, of-left ops h.1)
  of-left (_ ∷ ops) h = of-left ops h.1

  imm-takes : (op : ImmOp) (imm : ℤ) (i : ℕ) → i < 8 → AreBytes instr (imm_takes op imm i)
  imm-takes Addi imm i l = by-test (is_zero imm)
    where
      by-test : (b : Bool) → AreBytes instr (if b then Left i ∷ [] else of_left (op_takes Add i))
      by-test true = (l, tt)
      by-test false = of-left (op_takes Add i) (op-takes Add i l)
  imm-takes op imm i l = of-left (op_takes (reg_op op) i) (op-takes (reg_op op) i l)

  imm-copies : (op : ImmOp) (imm : ℤ) (i : ℕ) → i < 8 → AreBytes instr (imm_copies op imm i)
  imm-copies Addi imm i l = taken-if (is_zero imm) (Left i) (λ is. l)
  imm-copies op imm i l = tt

  with-address : (ops : List Operand) → AreBytes instr ops → AreBytes instr (with_address ops)
  with-address [] h = tt
  with-address (o ∷ ops) h = (h.0, all-append (IsByteOf instr) ops (first_bytes Address 8) h.1 (first-ones Address (λ k l. l) 8 (omega arith)))

extended : (op : LoadOp) (rd rs1 : ℕ) (imm : ℤ) → AreBytes (Load op rd rs1 imm) (extended_from op)
extended op rd rs1 imm = grind (arith, nat_tests)

load-takes : (op : LoadOp) (rd rs1 : ℕ) (imm : ℤ) (i : ℕ) → AreBytes (Load op rd rs1 imm) (load_takes op i)
load-takes op rd rs1 imm i = grind (arith, nat_tests, extended, ltb-true)

copy-bytes : (instr : Instr) (i : ℕ) → i < 8 → AreBytes instr (copy_operands instr i)
copy-bytes instr i h1 = grind (arith, nat_tests, imm-copies, ltb-true, taken-if, unless-x0)

data-bytes : (instr : Instr) (i : ℕ) → i < 8 → AreBytes instr (data_operands instr i)
data-bytes (Load op rd rs1 imm) i l = unless-x0 (Load op rd rs1 imm) rd (load_takes op i) (load-takes op rd rs1 imm i)
data-bytes (Store op rs1 rs2 imm) i l = taken-if (Store op rs1 rs2 imm) (nat_lt i (store_len op)) (Right i) (λ t. l)
data-bytes (Imm op rd rs1 imm) i l = unless-x0 (Imm op rd rs1 imm) rd (imm_takes op imm i) (imm-takes (Imm op rd rs1 imm) op imm i l)
data-bytes (Op op rd rs1 rs2) i l = unless-x0 (Op op rd rs1 rs2) rd (op_takes op i) (op-takes (Op op rd rs1 rs2) op i l)
data-bytes _ i l = tt

index-bytes : (instr : Instr) (i : ℕ) → i < 8 → AreBytes instr (index_operands instr i)
index-bytes (Load op rd rs1 imm) i l = with-address (Load op rd rs1 imm) (data_operands (Load op rd rs1 imm) i) (data-bytes (Load op rd rs1 imm) i l)
index-bytes (Store op rs1 rs2 imm) i l = with-address (Store op rs1 rs2 imm) (data_operands (Store op rs1 rs2 imm) i) (data-bytes (Store op rs1 rs2 imm) i l)
index-bytes instr i l = data-bytes instr i l

pub linkage-bytes : (linkage : Linkage) (instr : Instr) (i : ℕ) → i < 8 → AreBytes instr (operands linkage instr i)
linkage-bytes linkage instr i h1 = grind (arith, nat_tests, copy-bytes, data-bytes, index-bytes)

store-low : (op : StoreOp) → store_len op ≤ 8
store-low op = grind (arith, nat_tests)

pub stored-low : (instr : Instr) → stored_len instr ≤ 8
stored-low instr = grind (arith, nat_tests, store-low)

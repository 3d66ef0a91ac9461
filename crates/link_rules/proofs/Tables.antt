-- The parts of the tables are those of the definition.
use Rattle.std.proofs.Common.{◌≡◌, ℕ, zero, suc, ◌<◌, ◌^◌, Bool, true, if◌then◌else◌, ℤ, [], ◌∷◌, refl, sym, ap, ◌∙◌}
use borrow.Author.Tests.{lt-ltb}
use Rattle.rv64_isa.specs.declared.instruction.Instr.TheVariants.{Load, Store, Imm, Op}
use Rattle.rv64_isa.specs.declared.instruction.LoadOp.{LoadOp}
use Rattle.rv64_isa.specs.declared.instruction.StoreOp.{StoreOp}
use Rattle.rv64_isa.specs.declared.instruction.ImmOp.{ImmOp}
use Rattle.rv64_isa.specs.declared.instruction.ImmOp.TheVariants.{Addi}
use Rattle.rv64_isa.specs.declared.instruction.RegOp.{RegOp}
use Rattle.rv64_model.specs.declared.linkage.Linkage.{Linkage}
use Rattle.rv64_model.specs.declared.linkage.Linkage.TheVariants.{Copy, Data, Index}
use Rattle.rv64_model.specs.Values.{reg_op}
use Rattle.rv64_model.specs.Operands.{store_len}
use Rattle.rv64_model.specs.Carries.{Operand, Left, Right, Loaded, operands, unless_x0, taken_if, of_left, imm_copies, imm_takes}
use Rattle.link_rules.specs.Listed.{listed, address_bytes, addressed, looks_up, loaded_by, stored_by, op_bytes, is_move, imm_bytes}
use Rattle.link_rules.proofs.Bytes.{one_left, one_right, one_loaded, listed-one_left, listed-one_right, listed-one_loaded}

addressed-one : (l : Linkage) (x : Operand) → x ∷ address_bytes (looks_up l) ≡ addressed l (x ∷ [])
addressed-one Copy x = refl
addressed-one Data x = refl
addressed-one Index x = refl

-- a load takes one byte, and perhaps the address
pub load-one : (l : Linkage) (op : LoadOp) (i k mask : ℕ) (a : Bool) → k < 8 → mask ≡ 2 ^ k → a ≡ looks_up l
    → Loaded k ∷ [] ≡ loaded_by l op i → listed (one_loaded mask a) ≡ addressed l (loaded_by l op i)
load-one l op i k mask a below m e h =
    (λ j. listed (one_loaded (m j) (e j))) ∙ listed-one_loaded k below (looks_up l) ∙ addressed-one l (Loaded k) ∙ ap (addressed l) h

-- a store takes one byte, and perhaps the address
pub store-one : (l : Linkage) (op : StoreOp) (i mask : ℕ) (a : Bool) → i < 8 → i < store_len op → mask ≡ 2 ^ i → a ≡ looks_up l
    → listed (one_right mask a) ≡ addressed l (stored_by op i)
store-one l op i mask a below within m e =
    (λ j. listed (one_right (m j) (e j))) ∙ listed-one_right i below (looks_up l) ∙ addressed-one l (Right i)
    ∙ ap (λ t. addressed l (taken_if t (Right i))) (sym (lt-ltb i (store_len op) within))

-- a move takes the byte itself
pub move-one : (l : Linkage) (op : ImmOp) (imm : ℤ) (i mask : ℕ) → i < 8 → mask ≡ 2 ^ i → is_move op imm ≡ true
    → listed (one_left mask) ≡ imm_bytes l op imm i
move-one l op imm i mask below m h =
    ap (λ x. listed (one_left x)) m ∙ listed-one_left i below
    ∙ ap (λ moves. if moves then Left i ∷ [] else of_left (op_bytes l (reg_op op) i)) (sym h)

pub load-table : (l : Linkage) (op : LoadOp) (rd rs1 : ℕ) (imm : ℤ) (i : ℕ)
    → unless_x0 rd (addressed l (loaded_by l op i)) ≡ operands l (Load op rd rs1 imm) i
load-table Copy op rd rs1 imm i = refl
load-table Data op rd rs1 imm i = refl
load-table Index op zero rs1 imm i = refl
load-table Index op (suc rd) rs1 imm i = refl

pub store-table : (l : Linkage) (op : StoreOp) (rs1 rs2 : ℕ) (imm : ℤ) (i : ℕ)
    → addressed l (stored_by op i) ≡ operands l (Store op rs1 rs2 imm) i
store-table Copy op rs1 rs2 imm i = refl
store-table Data op rs1 rs2 imm i = refl
store-table Index op rs1 rs2 imm i = refl

imm-copied : (op : ImmOp) (imm : ℤ) (i : ℕ) → imm_bytes Copy op imm i ≡ imm_copies op imm i
imm-copied Addi imm i = refl
imm-copied op imm i = refl

imm-taken : (op : ImmOp) (imm : ℤ) (i : ℕ) → imm_bytes Data op imm i ≡ imm_takes op imm i
imm-taken Addi imm i = refl
imm-taken op imm i = refl

pub imm-table : (l : Linkage) (op : ImmOp) (rd rs1 : ℕ) (imm : ℤ) (i : ℕ)
    → unless_x0 rd (imm_bytes l op imm i) ≡ operands l (Imm op rd rs1 imm) i
imm-table Copy op rd rs1 imm i = ap (unless_x0 rd) (imm-copied op imm i)
imm-table Data op rd rs1 imm i = ap (unless_x0 rd) (imm-taken op imm i)
imm-table Index op rd rs1 imm i = ap (unless_x0 rd) (imm-taken op imm i)

pub op-table : (l : Linkage) (op : RegOp) (rd rs1 rs2 i : ℕ) → unless_x0 rd (op_bytes l op i) ≡ operands l (Op op rd rs1 rs2) i
op-table Copy op zero rs1 rs2 i = refl
op-table Copy op (suc rd) rs1 rs2 i = refl
op-table Data op rd rs1 rs2 i = refl
op-table Index op rd rs1 rs2 i = refl

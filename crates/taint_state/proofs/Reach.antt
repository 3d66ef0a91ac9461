-- Which operands an instruction's result takes: bytes of registers, and bytes that it loads.
use Rattle.std.proofs.Common.{◌≡◌, ℕ, zero, suc, ◌-◌, ◌<◌, ◌≤◌, nat_lt, Bool, true, false, if◌then◌else◌, List, [], ◌∷◌, ◌++◌, map, length, slice_index_or, Contains, ℤ, refl, subst, arith, lit<, lit≤}
use Rattle.std.proofs.lemmas.Bool.{ltb-true}
use Rattle.rv64_isa.specs.declared.instruction.Instr.{Instr}
use Rattle.rv64_isa.specs.declared.instruction.Instr.TheVariants.{Load, Store, Imm, Op}
use Rattle.rv64_isa.specs.declared.instruction.LoadOp.{LoadOp}
use Rattle.rv64_isa.specs.declared.instruction.LoadOp.TheVariants.{Lb, Lh, Lw, Ld, Lbu, Lhu, Lwu}
use Rattle.rv64_isa.specs.declared.instruction.StoreOp.{StoreOp}
use Rattle.rv64_isa.specs.declared.instruction.StoreOp.TheVariants.{Sb, Sh, Sw, Sd}
use Rattle.rv64_isa.specs.declared.instruction.ImmOp.{ImmOp}
use Rattle.rv64_isa.specs.declared.instruction.ImmOp.TheVariants as imm_op
use Rattle.rv64_isa.specs.declared.instruction.RegOp.{RegOp}
use Rattle.rv64_isa.specs.declared.instruction.RegOp.TheVariants.{Add, Sub, Sll, Slt, Sltu, Xor, Srl, Sra, Or, And, Addw, Subw, Sllw, Srlw, Sraw}
use Rattle.rv64_model.specs.declared.linkage.Linkage.{Linkage}
use Rattle.rv64_model.specs.declared.linkage.Linkage.TheVariants.{Copy, Data, Index}
use Rattle.rv64_model.specs.Carries.{Operand, Left, Right, Loaded, Address, Rule, Bytewise, Upward, Shifted, Compared, below, by_rule, extended_from, first_bytes, imm_copies, imm_takes, is_zero, load_takes, of_left, op_takes, operands, rule_of, taken_if, unless_x0, width_of, with_address, within_width}
use Rattle.rv64_model.specs.Operands.{store_len, stored_len}
use Rattle.rv64_model.specs.Values.{load_len, reg_op}
use Rattle.taint_flow.specs.Names.{loaded_len}

-- an operand of an instruction that loads so many bytes
abbrev pub InReach : ℕ → Operand → Type 0
InReach len (Left i) = i < 8
InReach len (Right i) = i < 8
InReach len (Loaded k) = k < len
InReach len (Address i) = i < 8

abbrev pub Each : {X : Type 0} → (X → Type 0) → List X → Type 0
Each P [] = Unit {0}
Each P (x ∷ xs) = P x × Each P xs

each-append : {X : Type 0} (P : X → Type 0) (xs ys : List X) → Each P xs → Each P ys → Each P (xs ++ ys)
each-append P [] ys a b = b
each-append P (x ∷ xs) ys a b = (a.0, each-append P xs ys a.1 b)

each-map : {X Y : Type 0} (P : Y → Type 0) (f : X → Y) (xs : List X) → Each (λ x. P (f x)) xs → Each P (map f xs)
each-map P f [] a = tt
each-map P f (x ∷ xs) a = (a.0, each-map P f xs a.1)

each-at : {X : Type 0} (P : X → Type 0) (xs : List X) (k : ℕ) (x : X) → k < length xs → slice_index_or xs k x ≡ x → Each P xs → P x
each-at P [] k x h e a = absurd (omega arith)
each-at P (y ∷ ys) zero x h e a = subst P e a.0
each-at P (y ∷ ys) (suc k) x h e a = each-at P ys k x (omega arith) e a.1

pub each-contains : {X : Type 0} (P : X → Type 0) (xs : List X) (x : X) → Contains xs x → Each P xs → P x
each-contains P xs x c a = each-at P xs c.0 x c.1 c.2 a

each-below : (P : ℕ → Type 0) (n : ℕ) → ((k : ℕ) → k < n → P k) → Each P (below n)
each-below P zero f = tt
each-below P (suc n) f = each-append P (below n) (n ∷ []) (each-below P n (λ k h. f k (omega arith))) (f n (omega arith), tt)

module _ (len : ℕ) where
  each-bytes : (operand : ℕ → Operand) (n : ℕ) → n ≤ 8 → ((k : ℕ) → k < 8 → InReach len (operand k)) → Each (InReach len) (first_bytes operand n)
  each-bytes operand n h f = each-map (InReach len) operand (below n) (each-below (λ k. InReach len (operand k)) n (λ k l. f k (omega arith)))

  each-if : (b : Bool) (operand : Operand) → InReach len operand → Each (InReach len) (taken_if b operand)
  each-if true operand h = (h, tt)
  each-if false operand h = tt

  -- where the test says so
  each-lt : (i n : ℕ) (operand : Operand) → (i < n → InReach len operand) → Each (InReach len) (taken_if (nat_lt i n) operand)
  each-lt i n operand f = by_test (nat_lt i n) refl where
    by_test : (b : Bool) → nat_lt i n ≡ b → Each (InReach len) (taken_if b operand)
    by_test true e = (f (ltb-true i n e), tt)
    by_test false e = tt

  each-unless : (rd : ℕ) (xs : List Operand) → Each (InReach len) xs → Each (InReach len) (unless_x0 rd xs)
  each-unless zero xs a = tt
  each-unless (suc rd) xs a = a

  each-left : (xs : List Operand) → Each (InReach len) xs → Each (InReach len) (of_left xs)
  each-left [] a = tt
  each-left (Left i ∷ xs) a = (a.0, each-left xs a.1)
  each-left (Right i ∷ xs) a = each-left xs a.1
  each-left (Loaded i ∷ xs) a = each-left xs a.1
  each-left (Address i ∷ xs) a = each-left xs a.1

  each-address : (xs : List Operand) → Each (InReach len) xs → Each (InReach len) (with_address xs)
  each-address [] a = tt
  each-address (x ∷ xs) a = (a.0, each-append (InReach len) xs (first_bytes Address 8) a.1 (each-bytes Address 8 (omega arith) (λ k h. h)))

  lefts : (n : ℕ) → n ≤ 8 → Each (InReach len) (first_bytes Left n)
  lefts n h = each-bytes Left n h (λ k l. l)

  rights : (n : ℕ) → n ≤ 8 → Each (InReach len) (first_bytes Right n)
  rights n h = each-bytes Right n h (λ k l. l)

  each-rule : (rule : Rule) (width i : ℕ) → width ≤ 8 → i < 8 → Each (InReach len) (by_rule rule width i)
  each-rule Bytewise width i w h = (h, (h, tt))
  each-rule Upward width i w h = each-append (InReach len) (first_bytes Left (suc i)) (first_bytes Right (suc i)) (lefts (suc i) (omega arith)) (rights (suc i) (omega arith))
  each-rule Shifted width i w h = each-append (InReach len) (first_bytes Left width) (Right 0 ∷ []) (lefts width w) (omega arith, tt)
  each-rule Compared width zero w h = each-append (InReach len) (first_bytes Left width) (first_bytes Right width) (lefts width w) (rights width w)
  each-rule Compared width (suc i) w h = tt

  width-few : (op : RegOp) → (0 < width_of op) × (width_of op ≤ 8)
  width-few Add = (lit< tt, lit≤ tt)
  width-few Sub = (lit< tt, lit≤ tt)
  width-few Sll = (lit< tt, lit≤ tt)
  width-few Slt = (lit< tt, lit≤ tt)
  width-few Sltu = (lit< tt, lit≤ tt)
  width-few Xor = (lit< tt, lit≤ tt)
  width-few Srl = (lit< tt, lit≤ tt)
  width-few Sra = (lit< tt, lit≤ tt)
  width-few Or = (lit< tt, lit≤ tt)
  width-few And = (lit< tt, lit≤ tt)
  width-few Addw = (lit< tt, lit≤ tt)
  width-few Subw = (lit< tt, lit≤ tt)
  width-few Sllw = (lit< tt, lit≤ tt)
  width-few Srlw = (lit< tt, lit≤ tt)
  width-few Sraw = (lit< tt, lit≤ tt)

  in-width : (width i : ℕ) → 0 < width → width ≤ 8 → i < 8 → within_width width i < 8
  in-width width i above few h = by_test (nat_lt i width)
    where
      by_test : (b : Bool) → (if b then i else width - 1) < 8
      by_test true = h
      by_test false = omega arith

  each-op : (op : RegOp) (i : ℕ) → i < 8 → Each (InReach len) (op_takes op i)
  each-op op i h =
      let few = width-few op in
      each-rule (rule_of op) (width_of op) (within_width (width_of op) i) few.1 (in-width (width_of op) i few.0 few.1 h)

  each-imm-op : (op : RegOp) (i : ℕ) → i < 8 → Each (InReach len) (of_left (op_takes op i))
  each-imm-op op i h = each-left (op_takes op i) (each-op op i h)

  each-imm : (op : ImmOp) (imm : ℤ) (i : ℕ) → i < 8 → Each (InReach len) (imm_takes op imm i)
  each-imm imm_op.Addi imm i h = by_test (is_zero imm)
    where
      by_test : (b : Bool) → Each (InReach len) (if b then Left i ∷ [] else of_left (op_takes Add i))
      by_test true = (h, tt)
      by_test false = each-imm-op Add i h
  each-imm op imm i h = each-imm-op (reg_op op) i h

  each-imm-copies : (op : ImmOp) (imm : ℤ) (i : ℕ) → i < 8 → Each (InReach len) (imm_copies op imm i)
  each-imm-copies imm_op.Addi imm i h = each-if (is_zero imm) (Left i) h
  each-imm-copies op imm i h = tt

each-extended : (op : LoadOp) → Each (InReach (load_len op)) (extended_from op)
each-extended Lb = (lit< tt, tt)
each-extended Lh = (lit< tt, tt)
each-extended Lw = (lit< tt, tt)
each-extended Ld = tt
each-extended Lbu = tt
each-extended Lhu = tt
each-extended Lwu = tt

each-load : (op : LoadOp) (i : ℕ) → Each (InReach (load_len op)) (load_takes op i)
each-load op i = by_test (nat_lt i (load_len op)) refl
  where
    by_test : (b : Bool) → nat_lt i (load_len op) ≡ b → Each (InReach (load_len op)) (if b then Loaded i ∷ [] else extended_from op)
    by_test true e = (ltb-true i (load_len op) e, tt)
    by_test false e = each-extended op

copy-reach : (instr : Instr) (i : ℕ) → i < 8 → Each (InReach (loaded_len instr)) (operands Copy instr i)
copy-reach (Load op rd rs1 imm) i h = each-unless (load_len op) rd _ (each-lt (load_len op) i (load_len op) (Loaded i) (λ l. l))
copy-reach (Store op rs1 rs2 imm) i h = each-if 0 (nat_lt i (store_len op)) (Right i) h
copy-reach (Imm op rd rs1 imm) i h = each-unless 0 rd _ (each-imm-copies 0 op imm i h)
copy-reach other i h = tt

data-reach : (instr : Instr) (i : ℕ) → i < 8 → Each (InReach (loaded_len instr)) (operands Data instr i)
data-reach (Load op rd rs1 imm) i h = each-unless (load_len op) rd _ (each-load op i)
data-reach (Store op rs1 rs2 imm) i h = each-if 0 (nat_lt i (store_len op)) (Right i) h
data-reach (Imm op rd rs1 imm) i h = each-unless 0 rd _ (each-imm 0 op imm i h)
data-reach (Op op rd rs1 rs2) i h = each-unless 0 rd _ (each-op 0 op i h)
data-reach other i h = tt

index-reach : (instr : Instr) (i : ℕ) → i < 8 → Each (InReach (loaded_len instr)) (operands Index instr i)
index-reach (Load op rd rs1 imm) i h = each-address (load_len op) _ (data-reach (Load op rd rs1 imm) i h)
index-reach (Store op rs1 rs2 imm) i h = each-address 0 _ (data-reach (Store op rs1 rs2 imm) i h)
index-reach other i h = data-reach other i h

pub all-reach : (linkage : Linkage) (instr : Instr) (i : ℕ) → i < 8 → Each (InReach (loaded_len instr)) (operands linkage instr i)
all-reach Copy instr i h = copy-reach instr i h
all-reach Data instr i h = data-reach instr i h
all-reach Index instr i h = index-reach instr i h

load-few : (op : LoadOp) → load_len op ≤ 8
load-few Lb = lit≤ tt
load-few Lh = lit≤ tt
load-few Lw = lit≤ tt
load-few Ld = lit≤ tt
load-few Lbu = lit≤ tt
load-few Lhu = lit≤ tt
load-few Lwu = lit≤ tt

pub loaded-few : (instr : Instr) → loaded_len instr ≤ 8
loaded-few (Load op rd rs1 imm) = load-few op
loaded-few other = omega arith

store-few : (op : StoreOp) → store_len op ≤ 8
store-few Sb = lit≤ tt
store-few Sh = lit≤ tt
store-few Sw = lit≤ tt
store-few Sd = lit≤ tt

pub stored-few : (instr : Instr) → stored_len instr ≤ 8
stored-few (Store op rs1 rs2 imm) = store-few op
stored-few other = omega arith

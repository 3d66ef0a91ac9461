-- Rows and mnemonics: a look-up finds the mnemonic of a row, and only one whose row has the fields.
use Rattle.std.proofs.Common.{◌≡◌, ◌≢◌, ℕ, Bool, true, false, Option, Some, List, [], ◌∷◌, refl, ap, not, ◌⊎◌, arith, ◌==◌, ◌&&◌, cond, nat_lt, nat_le}
use Rattle.std.specs.List.{find, list_all}
use Rattle.std.proofs.lemmas.Bool.Decides.{nat_tests}
use Rattle.std.proofs.lemmas.Bool.{eqb-true, ltb-true, leb-true, and_parts}
use Rattle.rv64_isa.specs.Opcode.{branch, load, store, op_imm, op_imm_32, op, op_32}
use Rattle.rv64_isa.specs.Rows.{IsRow, is_row_of, upper_of, branch_row, load_row, store_row, imm_row, reg_row, branch_op_at, load_op_at, store_op_at, imm_op_at, reg_op_at, branch_ops, load_ops, store_ops, imm_ops, reg_ops}
use Rattle.rv64_isa.specs.declared.row.Row.{Row}
use Rattle.rv64_isa.specs.declared.row.Form.{Form}
use Rattle.rv64_isa.specs.declared.row.Form.TheVariants.{R}
use Rattle.rv64_isa.specs.declared.instruction.BranchOp.{BranchOp}
use Rattle.rv64_isa.specs.declared.instruction.BranchOp.TheVariants.{Beq}
use Rattle.rv64_isa.specs.declared.instruction.LoadOp.{LoadOp}
use Rattle.rv64_isa.specs.declared.instruction.LoadOp.TheVariants.{Lb}
use Rattle.rv64_isa.specs.declared.instruction.StoreOp.{StoreOp}
use Rattle.rv64_isa.specs.declared.instruction.StoreOp.TheVariants.{Sb}
use Rattle.rv64_isa.specs.declared.instruction.ImmOp.{ImmOp}
use Rattle.rv64_isa.specs.declared.instruction.ImmOp.TheVariants.{Addi, Slli, Srli, Srai, Slliw, Srliw, Sraiw}
use Rattle.rv64_isa.specs.declared.instruction.RegOp.{RegOp}
use Rattle.rv64_isa.specs.declared.instruction.RegOp.TheVariants.{Add}

-- what is found passes the test
first_passes : {A : Type 0} (test : A → Bool) (y x : A) (rest : Option A) (passes : Bool)
    → (rest ≡ Some x → test x ≡ true) → test y ≡ passes → cond passes (Some y) rest ≡ Some x
    → test x ≡ true
first_passes test y x rest true later is e = cc
first_passes test y x rest false later is e = later e

found_passes : {A : Type 0} (test : A → Bool) (xs : List A) (x : A) → find test xs ≡ Some x
    → test x ≡ true
found_passes test [] x e = absurd (cc)
found_passes test (y ∷ ys) x e =
    first_passes test y x (find test ys) (test y) (found_passes test ys x) refl e

-- the fields of a row that passes the test
pub record IsRowOf (opcode funct3 funct7 : ℕ) (row : Row) : Type 0 where
  pub opcode_is : row.opcode ≡ opcode
  pub funct3_is : row.funct3 ≡ funct3
  pub upper_is : row.upper ≡ upper_of row.form funct7

IsRowOf-true : (opcode funct3 funct7 : ℕ) (row : Row) → is_row_of opcode funct3 funct7 row ≡ true
    → IsRowOf opcode funct3 funct7 row
IsRowOf-true opcode funct3 funct7 row e =
    let same_opcode = row.opcode == opcode in
    let same_funct3 = row.funct3 == funct3 in
    let outer = and_parts (same_opcode && same_funct3) (row.upper == upper_of row.form funct7) e in
    let inner = and_parts same_opcode same_funct3 outer.0 in
    record {
      opcode_is = eqb-true row.opcode opcode inner.0;
      funct3_is = eqb-true row.funct3 funct3 inner.1;
      upper_is = eqb-true row.upper (upper_of row.form funct7) outer.1;
    }

-- what is found in the table has a row of these fields
pub IsRowOf-branch : (funct3 : ℕ) (op : BranchOp) → branch_op_at funct3 ≡ Some op
    → IsRowOf branch funct3 0 (branch_row op)
IsRowOf-branch funct3 op e =
    let test = λ (other : BranchOp). is_row_of branch funct3 0 (branch_row other) in
    IsRowOf-true branch funct3 0 (branch_row op) (found_passes test branch_ops op e)

pub IsRowOf-load : (funct3 : ℕ) (op : LoadOp) → load_op_at funct3 ≡ Some op
    → IsRowOf load funct3 0 (load_row op)
IsRowOf-load funct3 op e =
    let test = λ (other : LoadOp). is_row_of load funct3 0 (load_row other) in
    IsRowOf-true load funct3 0 (load_row op) (found_passes test load_ops op e)

pub IsRowOf-store : (funct3 : ℕ) (op : StoreOp) → store_op_at funct3 ≡ Some op
    → IsRowOf store funct3 0 (store_row op)
IsRowOf-store funct3 op e =
    let test = λ (other : StoreOp). is_row_of store funct3 0 (store_row other) in
    IsRowOf-true store funct3 0 (store_row op) (found_passes test store_ops op e)

pub IsRowOf-imm : (opcode funct3 funct7 : ℕ) (op : ImmOp)
    → imm_op_at opcode funct3 funct7 ≡ Some op → IsRowOf opcode funct3 funct7 (imm_row op)
IsRowOf-imm opcode funct3 funct7 op e =
    let test = λ (other : ImmOp). is_row_of opcode funct3 funct7 (imm_row other) in
    IsRowOf-true opcode funct3 funct7 (imm_row op) (found_passes test imm_ops op e)

pub IsRowOf-reg : (opcode funct3 funct7 : ℕ) (op : RegOp)
    → reg_op_at opcode funct3 funct7 ≡ Some op → IsRowOf opcode funct3 funct7 (reg_row op)
IsRowOf-reg opcode funct3 funct7 op e =
    let test = λ (other : RegOp). is_row_of opcode funct3 funct7 (reg_row other) in
    IsRowOf-true opcode funct3 funct7 (reg_row op) (found_passes test reg_ops op e)

-- whether the fields of a row fit
abbrev pub is_row : Row → Bool
is_row row = nat_lt row.opcode 128 && nat_lt row.funct3 8 && nat_le row.upper (upper_of row.form 127)

pub IsRow-true : (row : Row) → is_row row ≡ true → IsRow row
IsRow-true row e =
    let outer = and_parts (nat_lt row.opcode 128 && nat_lt row.funct3 8) (nat_le row.upper (upper_of row.form 127)) e in
    let inner = and_parts (nat_lt row.opcode 128) (nat_lt row.funct3 8) outer.0 in
    record {
      opcode_fits = ltb-true row.opcode 128 inner.0;
      funct3_fits = ltb-true row.funct3 8 inner.1;
      upper_fits = leb-true row.upper (upper_of row.form 127) outer.1;
    }

-- each mnemonic is what is found at the fields of its row
pub found_branch : (op : BranchOp) → branch_op_at (branch_row op).funct3 ≡ Some op
found_branch Beq = refl
found_branch _ = refl

pub found_load : (op : LoadOp) → load_op_at (load_row op).funct3 ≡ Some op
found_load Lb = refl
found_load _ = refl

pub found_store : (op : StoreOp) → store_op_at (store_row op).funct3 ≡ Some op
found_store Sb = refl
found_store _ = refl

pub found_imm : (op : ImmOp) (funct7 : ℕ) → (imm_row op).upper ≡ upper_of (imm_row op).form funct7
    → imm_op_at (imm_row op).opcode (imm_row op).funct3 funct7 ≡ Some op
found_imm Slli funct7 e = rw (← e) refl
found_imm Srli funct7 e = rw (← e) refl
found_imm Srai funct7 e = rw (← e) refl
found_imm Slliw funct7 e = rw (← e) refl
found_imm Srliw funct7 e = rw (← e) refl
found_imm Sraiw funct7 e = rw (← e) refl
found_imm _ funct7 e = refl

pub found_reg : (op : RegOp)
    → reg_op_at (reg_row op).opcode (reg_row op).funct3 (reg_row op).upper ≡ Some op
found_reg Add = refl
found_reg _ = refl

-- a mnemonic with an immediate is the one that has its row
abbrev is_same_row : Row → Row → Bool
is_same_row row other =
    other.opcode == row.opcode && other.funct3 == row.funct3 && other.upper == row.upper

listed_imm : (op : ImmOp)
    → find (λ other. is_same_row (imm_row op) (imm_row other)) imm_ops ≡ Some op
listed_imm Addi = refl
listed_imm _ = refl

-- what holds of each element holds of the one that is found
first_every : {A : Type 0} (p : A → Bool) (y x : A) (rest : Option A) (passes : Bool)
    → (rest ≡ Some x → p x ≡ true) → p y ≡ true → cond passes (Some y) rest ≡ Some x → p x ≡ true
first_every p y x rest true later first e = cc
first_every p y x rest false later first e = later e

found_every : {A : Type 0} (p test : A → Bool) (xs : List A) (x : A) → find test xs ≡ Some x
    → list_all p xs ≡ true → p x ≡ true
found_every p test [] x e each = absurd (cc)
found_every p test (y ∷ ys) x e each =
    let parts = and_parts (p y) (list_all p ys) each in
    first_every p y x (find test ys) (test y) (λ later. found_every p test ys x later parts.1) parts.0 e

-- so what the whole table passes holds of each mnemonic
every_branch : (p : BranchOp → Bool) → list_all p branch_ops ≡ true → (op : BranchOp) → p op ≡ true
every_branch p each op =
    let test = λ (other : BranchOp). is_row_of branch (branch_row op).funct3 0 (branch_row other) in
    found_every p test branch_ops op (found_branch op) each

every_load : (p : LoadOp → Bool) → list_all p load_ops ≡ true → (op : LoadOp) → p op ≡ true
every_load p each op =
    let test = λ (other : LoadOp). is_row_of load (load_row op).funct3 0 (load_row other) in
    found_every p test load_ops op (found_load op) each

every_store : (p : StoreOp → Bool) → list_all p store_ops ≡ true → (op : StoreOp) → p op ≡ true
every_store p each op =
    let test = λ (other : StoreOp). is_row_of store (store_row op).funct3 0 (store_row other) in
    found_every p test store_ops op (found_store op) each

every_imm : (p : ImmOp → Bool) → list_all p imm_ops ≡ true → (op : ImmOp) → p op ≡ true
every_imm p each op =
    let test = λ (other : ImmOp). is_same_row (imm_row op) (imm_row other) in
    found_every p test imm_ops op (listed_imm op) each

every_reg : (p : RegOp → Bool) → list_all p reg_ops ≡ true → (op : RegOp) → p op ≡ true
every_reg p each op =
    let row = reg_row op in
    let test = λ (other : RegOp). is_row_of row.opcode row.funct3 row.upper (reg_row other) in
    found_every p test reg_ops op (found_reg op) each

-- the row of each mnemonic fits
pub IsRow-branch : (op : BranchOp) → IsRow (branch_row op)
IsRow-branch op = IsRow-true (branch_row op) (every_branch (λ other. is_row (branch_row other)) refl op)

pub IsRow-load : (op : LoadOp) → IsRow (load_row op)
IsRow-load op = IsRow-true (load_row op) (every_load (λ other. is_row (load_row other)) refl op)

pub IsRow-store : (op : StoreOp) → IsRow (store_row op)
IsRow-store op = IsRow-true (store_row op) (every_store (λ other. is_row (store_row other)) refl op)

pub IsRow-imm : (op : ImmOp) → IsRow (imm_row op)
IsRow-imm op = IsRow-true (imm_row op) (every_imm (λ other. is_row (imm_row other)) refl op)

pub IsRow-reg : (op : RegOp) → IsRow (reg_row op)
IsRow-reg op = IsRow-true (reg_row op) (every_reg (λ other. is_row (reg_row other)) refl op)

-- a row of these kinds has one opcode
pub opcode_of_branch : (op : BranchOp) → (branch_row op).opcode ≡ branch
opcode_of_branch op = (IsRowOf-branch (branch_row op).funct3 op (found_branch op)).opcode_is

pub opcode_of_load : (op : LoadOp) → (load_row op).opcode ≡ load
opcode_of_load op = (IsRowOf-load (load_row op).funct3 op (found_load op)).opcode_is

pub opcode_of_store : (op : StoreOp) → (store_row op).opcode ≡ store
opcode_of_store op = (IsRowOf-store (store_row op).funct3 op (found_store op)).opcode_is

-- a row of these kinds has one of two opcodes
is_one_of : ℕ → ℕ → ℕ → Bool
is_one_of a b n = cond (n == a) true (n == b)

one_of : (a b n : ℕ) → is_one_of a b n ≡ true → (n ≡ a) ⊎ (n ≡ b)
unfolding is_one_of
one_of a b n e = grind (arith, nat_tests)

pub opcode_of_imm : (op : ImmOp)
    → ((imm_row op).opcode ≡ op_imm) ⊎ ((imm_row op).opcode ≡ op_imm_32)
unfolding is_one_of
opcode_of_imm op =
    one_of op_imm op_imm_32 (imm_row op).opcode
    (every_imm (λ other. is_one_of op_imm op_imm_32 (imm_row other).opcode) refl op)

pub opcode_of_reg : (mnemonic : RegOp)
    → ((reg_row mnemonic).opcode ≡ op) ⊎ ((reg_row mnemonic).opcode ≡ op_32)
unfolding is_one_of
opcode_of_reg mnemonic =
    one_of op op_32 (reg_row mnemonic).opcode
    (every_reg (λ other. is_one_of op op_32 (reg_row other).opcode) refl mnemonic)

-- operations on two registers have the R form, and those on an immediate another
abbrev is_r : Form → Bool
is_r R = true
is_r form = false

is_r-true : (form : Form) → is_r form ≡ true → form ≡ R
is_r-true R e = refl
is_r-true _ e = absurd (cc)

pub form_of_reg : (op : RegOp) → (reg_row op).form ≡ R
form_of_reg op = is_r-true (reg_row op).form (every_reg (λ other. is_r (reg_row other).form) refl op)

pub not_r_imm : (op : ImmOp) → (imm_row op).form ≢ R
not_r_imm op e =
    let is_not = every_imm (λ other. not (is_r (imm_row other).form)) refl op in
    let is = ap is_r e in
    absurd (cc)

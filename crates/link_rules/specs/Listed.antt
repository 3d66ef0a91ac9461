-- The operands of masks as a list, and the parts of the tables by kind of instruction.
use Rattle.std.specs.Prelude.{ℕ, zero, suc, ◌++◌, nat_lt, Bool, true, false, if◌then◌else◌, List, [], ◌∷◌, Option, Some, None, ℤ}
use Rattle.rv64_isa.specs.declared.instruction.LoadOp.{LoadOp}
use Rattle.rv64_isa.specs.declared.instruction.StoreOp.{StoreOp}
use Rattle.rv64_isa.specs.declared.instruction.ImmOp.{ImmOp}
use Rattle.rv64_isa.specs.declared.instruction.ImmOp.TheVariants.{Addi}
use Rattle.rv64_isa.specs.declared.instruction.RegOp.{RegOp}
use Rattle.rv64_model.specs.declared.linkage.Linkage.{Linkage}
use Rattle.rv64_model.specs.declared.linkage.Linkage.TheVariants.{Copy, Data, Index}
use Rattle.rv64_model.specs.Values.{load_len, reg_op}
use Rattle.rv64_model.specs.Operands.{store_len}
use Rattle.rv64_model.specs.Carries.{Operand, Left, Right, Loaded, Address, first_bytes, taken_if, is_zero, load_takes, op_takes, of_left, with_address}
use Rattle.link_rules.specs.declared.masks.Operands.{Operands}
use Rattle.link_rules.specs.Masks.{has_byte}

-- the bytes below n that a mask has
abbrev pub bytes_below : (ℕ → Operand) → ℕ → ℕ → List Operand
bytes_below operand mask zero = []
bytes_below operand mask (suc n) = bytes_below operand mask n ++ taken_if (has_byte mask n) (operand n)

-- all bytes of the address's register, or none
abbrev pub address_bytes : Bool → List Operand
address_bytes address = if address then first_bytes Address 8 else []

-- the operands of masks: of rs1, of rs2, those that are loaded, and the address
abbrev pub listed : Operands → List Operand
listed masks = bytes_below Left masks.first 8
    ++ (bytes_below Right masks.second 8 ++ (bytes_below Loaded masks.loaded 8 ++ address_bytes masks.address))

-- one operand or none
abbrev pub listed_option : (ℕ → Operand) → Option ℕ → List Operand
listed_option operand None = []
listed_option operand (Some k) = operand k ∷ []

-- bytes that are loaded or stored also take the address
abbrev pub looks_up : Linkage → Bool
looks_up Copy = false
looks_up Data = false
looks_up Index = true

-- with the address, under `index`
abbrev pub addressed : Linkage → List Operand → List Operand
addressed Copy operands = operands
addressed Data operands = operands
addressed Index operands = with_address operands

-- what byte i of a load takes, but for the address: under `copy` no sign
abbrev pub loaded_by : Linkage → LoadOp → ℕ → List Operand
loaded_by Copy op i = taken_if (nat_lt i (load_len op)) (Loaded i)
loaded_by Data op i = load_takes op i
loaded_by Index op i = load_takes op i

-- what byte i of a store takes, but for the address
abbrev pub stored_by : StoreOp → ℕ → List Operand
stored_by op i = taken_if (nat_lt i (store_len op)) (Right i)

-- what byte i of an operation on two registers takes: under `copy` none
abbrev pub op_bytes : Linkage → RegOp → ℕ → List Operand
op_bytes Copy op i = []
op_bytes Data op i = op_takes op i
op_bytes Index op i = op_takes op i

-- the operation moves the register as it is
abbrev pub is_move : ImmOp → ℤ → Bool
is_move Addi imm = is_zero imm
is_move op imm = false

-- what byte i of an operation with an immediate takes
abbrev pub imm_bytes : Linkage → ImmOp → ℤ → ℕ → List Operand
imm_bytes linkage op imm i = if is_move op imm then Left i ∷ [] else of_left (op_bytes linkage (reg_op op) i)

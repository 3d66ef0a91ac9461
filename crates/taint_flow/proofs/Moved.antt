-- What instructions take that move sets as they are.
use Rattle.std.proofs.Common.{◌≡◌, ℕ, ℤ, ◌<◌, ◌≤◌, nat_lt, true, false, IsTrue, List, [], ◌∷◌, slice_index, refl, sym, subst, arith}
use Rattle.std.proofs.lemmas.Bool.Decides.{nat_tests}
use Rattle.std.proofs.lemmas.Bool.{lt-ltb, ltb-true}
use Rattle.rv64_isa.specs.declared.instruction.Instr.{Instr}
use Rattle.rv64_isa.specs.declared.instruction.Instr.TheVariants.{Imm, Load, Store}
use Rattle.rv64_isa.specs.declared.instruction.ImmOp.{ImmOp}
use Rattle.rv64_isa.specs.declared.instruction.LoadOp.{LoadOp}
use Rattle.rv64_isa.specs.declared.instruction.StoreOp.{StoreOp}
use Rattle.rv64_model.specs.declared.linkage.Linkage.{Linkage}
use Rattle.rv64_model.specs.Carries.{Operand, Left, Right, Loaded, operands, taken_if}
use Rattle.rv64_model.specs.Operands.{stored_len}
use Rattle.taint_flow.specs.declared.flow.Flow.{Flow}
use Rattle.taint_flow.specs.declared.flow.Flow.TheVariants.{First, Memory, Second}
use Rattle.taint_flow.specs.Flow.{IsFirst, IsMemory, IsSecond}
use Rattle.taint_flow.specs.Moving.{MovesLoaded, MovesRegister, MovesStored}
use Rattle.taint_spans.specs.Numbered.{Numbered}
use Rattle.taint_flow.specs.Gathered.{AreNumbers, byte_count, number_of}
use Rattle.taint_flow.specs.Names.{loaded_len}
use Rattle.taint_flow.specs.Results.{AreResults, TakesOperands}
use Rattle.taint_flow.proofs.Flows.{one-of}

pub loaded-table : (linkage : Linkage) (instr : Instr) → MovesLoaded linkage instr → (i : ℕ) → operands linkage instr i ≡ taken_if (nat_lt i (loaded_len instr)) (Loaded i)
loaded-table linkage instr h1 i = grind (arith, nat_tests)

pub stored-table : (linkage : Linkage) (instr : Instr) → MovesStored linkage instr → (i : ℕ) → operands linkage instr i ≡ taken_if (nat_lt i (stored_len instr)) (Right i)
stored-table linkage instr h1 i = grind (arith, nat_tests)

pub register-table : (linkage : Linkage) (instr : Instr) → MovesRegister linkage instr → (i : ℕ) → i < byte_count → operands linkage instr i ≡ Left i ∷ []
register-table linkage instr h1 i h2 = grind (arith, nat_tests, lt-ltb)

-- each byte takes that of the first register in its place
pub kept-by : (sets : Numbered) (first second loaded : List ℕ) (taken : ℕ → List Operand) → ((i : ℕ) → i < byte_count → taken i ≡ Left i ∷ []) → AreNumbers sets first
    → AreResults sets sets (number_of first second loaded) taken first
kept-by sets first second loaded taken table are = record {
  len = are.len;
  bytes = λ i h.
      subst (λ (l : List Operand). TakesOperands sets sets (number_of first second loaded) l (slice_index first i)) (sym (table i h))
      (one-of sets (number_of first second loaded) (Left i) (slice_index first i) refl (are.set i h));
}

pub never : {P : Type 0} → false ≡ true → P
never e = cc

-- other instructions and other flows move nothing
pub not-loaded : (linkage : Linkage) (instr : Instr) → ((op : LoadOp) (rd rs1 : ℕ) (imm : ℤ) → instr ≡ Load op rd rs1 imm → ⊥) → MovesLoaded linkage instr → ⊥
not-loaded linkage (Load op rd rs1 imm) not moves = not op rd rs1 imm refl
not-loaded linkage other not moves = moves

pub not-stored : (linkage : Linkage) (instr : Instr) → ((op : StoreOp) (rs1 rs2 : ℕ) (imm : ℤ) → instr ≡ Store op rs1 rs2 imm → ⊥) → MovesStored linkage instr → ⊥
not-stored linkage (Store op rs1 rs2 imm) not moves = not op rs1 rs2 imm refl
not-stored linkage other not moves = moves

pub not-register : (linkage : Linkage) (instr : Instr) → ((op : ImmOp) (rd rs1 : ℕ) (imm : ℤ) → instr ≡ Imm op rd rs1 imm → ⊥) → MovesRegister linkage instr → ⊥
not-register linkage (Imm op rd rs1 imm) not moves = not op rd rs1 imm refl
not-register linkage other not moves = moves

pub not-memory : (flow : Flow) → ((len : ℕ) → flow ≡ Memory len → ⊥) → IsMemory flow → ⊥
not-memory (Memory len) not is = not len refl
not-memory other not is = is

pub not-second : (flow : Flow) → ((len : ℕ) → flow ≡ Second len → ⊥) → IsSecond flow → ⊥
not-second (Second len) not is = not len refl
not-second other not is = is

pub not-first : (flow : Flow) → (flow ≡ First → ⊥) → IsFirst flow → ⊥
not-first First not is = not refl
not-first other not is = is

-- x0 isn't above 0
pub not-above : (number reg : ℕ) → number ≡ reg → number ≤ 0 → 0 < reg → ⊥
not-above number reg same least above = omega arith

pub none-above : {P : Type 0} (number : ℕ) → number ≤ 0 → IsTrue (nat_lt 0 number) → P
none-above number least above = let some = ltb-true 0 number above in absurd (omega arith)

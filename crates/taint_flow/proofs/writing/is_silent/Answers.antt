use Rattle.std.proofs.Common.{◌⊎◌, inl, inr, None, replicate, ◌≡◌, ℕ, ◌<◌, ◌-◌, nat_lt, Contains, sym, subst, ℤ, List, [], ◌∷◌, ◌++◌, refl, ap, ◌∙◌, arith}
use Rattle.std.proofs.lemmas.Bool.{lt-ltb}
use Rattle.arn_base.specs.declared.machine.Cpu.{Cpu}
use Rattle.rv64_isa.specs.declared.instruction.Instr.{Instr}
use Rattle.rv64_isa.specs.declared.instruction.Instr.TheVariants.{Load, Store}
use Rattle.rv64_isa.specs.declared.instruction.LoadOp.{LoadOp}
use Rattle.rv64_isa.specs.declared.instruction.StoreOp.{StoreOp}
use Rattle.rv64_model.specs.declared.linkage.Linkage.{Linkage}
use Rattle.rv64_model.specs.Carries.{Operand, Left, Right, Loaded, both, first_bytes, operands, taken_if}
use Rattle.rv64_model.specs.Operands.{accessed}
use Rattle.taint_flow.specs.declared.flow.Flow.{Flow}
use Rattle.taint_flow.specs.declared.flow.Flow.TheVariants.{Nothing, First, Second, Memory, Extended, Rising, Carried, Whole, Bytewise, Mixed}
use Rattle.taint_flow.specs.Flow.{IsFlow}
use Rattle.taint_flow.specs.Gathered.{number_of}
use Rattle.taint_flow.specs.Silent.{IsSilent}
use Rattle.taint_flow.proofs.Flows.{takes-nothing, zero-at}
use Rattle.taint_flow.proofs.Grown.{last-of, reach-below}
use Rattle.taint_flow.proofs.writing.is_silent.Goals as goal

-- where byte 0 takes nothing, no byte does
some-taken : (len : ℕ) (x : Operand) → 0 < len → taken_if (nat_lt 0 len) x ≡ x ∷ []
some-taken len x some = ap (λ t. taken_if t x) (lt-ltb 0 len some)

none-in : (operand : Operand) → Contains [] operand → ⊥
none-in operand c = let below : c.0 < 0 = c.1 in omega arith

nothing-flow : (flow : Flow) (taken : ℕ → List Operand) → IsFlow flow taken → taken 0 ≡ [] → flow ≡ Nothing
nothing-flow Nothing taken is none = refl
nothing-flow First taken is none = let one : taken 0 ≡ Left 0 ∷ [] = is 0 (omega arith) in cc
nothing-flow (Second len) taken is none = let one : taken 0 ≡ Right 0 ∷ [] = is.1 0 ∙ some-taken len (Right 0) is.0 in cc
nothing-flow (Memory len) taken is none = let one : taken 0 ≡ Loaded 0 ∷ [] = is.1 0 ∙ some-taken len (Loaded 0) is.0 in cc
nothing-flow (Extended width) taken is none = let one = is.1 0 in cc
nothing-flow (Rising width) taken is none = let one : taken 0 ≡ Left 0 ∷ [] = is.1 0 ∙ ap (first_bytes Left) (reach-below width 0 is.0.0) in cc
nothing-flow (Carried width) taken is none =
    let two : taken 0 ≡ both 0 = is.1 0 ∙ ap (λ n. first_bytes Left n ++ first_bytes Right n) (reach-below width 0 is.0.0) in cc
nothing-flow (Whole width) taken is none = absurd (none-in (Left (width - 1)) (subst (λ l. Contains l (Left (width - 1))) (sym (is.1 0) ∙ none) (last-of Left width is.0.0)))
nothing-flow Bytewise taken is none = let two : taken 0 ≡ both 0 = is 0 (omega arith) in cc
nothing-flow Mixed taken is none = absurd (is none)

-- what loads and stores access, and all others don't
abbrev zeros : Cpu
zeros = record { x = replicate 31 0; pc = 0 }

accesses : (linkage : Linkage) (instr : Instr)
    → ((op : LoadOp) × (rd : ℕ) × (rs1 : ℕ) × (imm : ℤ) × (instr ≡ Load op rd rs1 imm)) ⊎ ((op : StoreOp) × (rs1 : ℕ) × (rs2 : ℕ) × (imm : ℤ) × (instr ≡ Store op rs1 rs2 imm)) → IsSilent linkage instr → ⊥
accesses linkage instr (inl load) silent = let some = ap (λ i. accessed i zeros) load.4 in let none = silent.apart zeros in cc
accesses linkage instr (inr store) silent = let some = ap (λ i. accessed i zeros) store.4 in let none = silent.apart zeros in cc

apart : (instr : Instr) → ((op : LoadOp) (rd rs1 : ℕ) (imm : ℤ) → instr ≡ Load op rd rs1 imm → ⊥) → ((op : StoreOp) (rs1 rs2 : ℕ) (imm : ℤ) → instr ≡ Store op rs1 rs2 imm → ⊥) → (cpu : Cpu) → accessed instr cpu ≡ None
apart (Load op rd rs1 imm) not_load not_store cpu = absurd (not_load op rd rs1 imm refl)
apart (Store op rs1 rs2 imm) not_load not_store cpu = absurd (not_store op rs1 rs2 imm refl)
apart other not_load not_store cpu = refl

pub returns-in-Load-clause-silent : goal.returns-in-Load-clause-silent
returns-in-Load-clause-silent c = (λ e. cc, λ silent. absurd (accesses c.args.linkage c.args.instr.now c.in-Load.is silent))

pub returns-in-Load-2-clause-silent : goal.returns-in-Load-2-clause-silent
returns-in-Load-2-clause-silent c = (λ e. cc, λ silent. absurd (accesses c.args.linkage c.args.instr.now c.in-Load.is silent))

pub returns-in-Nothing : goal.returns-in-Nothing
returns-in-Nothing c =
    let instr = c.args.instr.now in
    let sets = c.args.sets.now in
    record {
      silent = (λ e. record { nothing = c.in-Nothing.ensures; apart = apart instr c.in_default.not-Load c.in_default.not-Store }, λ silent. refl);
      results = λ e first second loaded. record {
        len = refl;
        bytes = λ byte h.
            takes-nothing sets (number_of first second loaded) c.none.ensures.set c.none.ensures.empty (operands c.args.linkage instr byte) _ (zero-at 8 byte)
            (λ x named. absurd (none-in x (subst (λ l. Contains l x) (c.in-Nothing.ensures byte) named)));
      };
    }

pub returns-in_default-matches : goal.returns-in_default-matches
returns-in_default-matches c = record {
  silent = (
    λ e. cc,
    λ silent. absurd (c.in_default-matches.not-Nothing (nothing-flow c.result_flow.result (operands c.args.linkage c.args.instr.now) c.result_flow.ensures (silent.nothing 0))),
  );
  results = λ e. cc;
}

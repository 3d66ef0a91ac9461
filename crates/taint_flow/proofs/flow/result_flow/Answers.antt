use Rattle.std.proofs.Common.{◌==◌, w64, ◌≡◌, ℕ, zero, suc, Bool, if◌then◌else◌, ℤ, List, [], refl, sym, ap, subst, ◌∙◌, rules}
use mir.Val.{SFits}
use Rattle.std.proofs.Math.Dec.{eqb-suc-zero}
use Rattle.std.proofs.lemmas.Int.{to_z-of_z}
use Rattle.rv64_isa.specs.declared.instruction.Instr.TheVariants.{Load, Imm, Op}
use Rattle.rv64_isa.specs.declared.instruction.LoadOp.{LoadOp}
use Rattle.rv64_isa.specs.declared.instruction.ImmOp.{ImmOp}
use Rattle.rv64_isa.specs.declared.instruction.RegOp.{RegOp}
use Rattle.rv64_model.specs.declared.linkage.Linkage.{Linkage}
use Rattle.rv64_model.specs.declared.linkage.Linkage.TheVariants.{Copy, Data, Index}
use Rattle.rv64_model.specs.Carries.{Operand, operands}
use Rattle.taint_flow.specs.declared.flow.Flow.{Flow}
use Rattle.taint_flow.specs.declared.flow.Flow.TheVariants.{Nothing}
use Rattle.taint_flow.specs.Flow.{IsFlow}
use Rattle.taint_flow.proofs.flow.result_flow.Goals as goal

-- a write to x0 takes nothing
load-x0 : (linkage : Linkage) (op : LoadOp) (rs1 : ℕ) (imm : ℤ) (i : ℕ) → operands linkage (Load op 0 rs1 imm) i ≡ []
load-x0 Copy op rs1 imm i = refl
load-x0 Data op rs1 imm i = refl
load-x0 Index op rs1 imm i = refl

imm-x0 : (linkage : Linkage) (op : ImmOp) (rs1 : ℕ) (imm : ℤ) (i : ℕ) → operands linkage (Imm op 0 rs1 imm) i ≡ []
imm-x0 Copy op rs1 imm i = refl
imm-x0 Data op rs1 imm i = refl
imm-x0 Index op rs1 imm i = refl

op-x0 : (linkage : Linkage) (op : RegOp) (rs1 rs2 i : ℕ) → operands linkage (Op op 0 rs1 rs2) i ≡ []
op-x0 Copy op rs1 rs2 i = refl
op-x0 Data op rs1 rs2 i = refl
op-x0 Index op rs1 rs2 i = refl

unless-x0 : (flow result : Flow) (rd : ℕ) (row : ℕ → ℕ → List Operand) → result ≡ (if rd == 0 then Nothing else flow) → ((i : ℕ) → row 0 i ≡ []) → ((r : ℕ) → IsFlow flow (row (suc r))) → IsFlow result (row rd)
unless-x0 flow result zero row e none some = subst (λ f. IsFlow f (row 0)) (sym e) none
unless-x0 flow result (suc r) row e none some = subst (λ f. IsFlow f (row (suc r))) (sym (e ∙ ap (λ (t : Bool). if t then Nothing else flow) (eqb-suc-zero r))) (some r)

pub returns-in-Load : goal.returns-in-Load
returns-in-Load c =
    let i = c.in-Load in
    subst (λ instr. IsFlow c.unless_x0.result (operands c.args.linkage instr)) (sym i.is)
    (unless-x0 c.of_load.result c.unless_x0.result i.rd (λ rd. operands c.args.linkage (Load i.op rd i.rs1 i.imm)) c.unless_x0.ensures (load-x0 c.args.linkage i.op i.rs1 i.imm) (λ rd. c.of_load.ensures.flow rd i.rs1 i.imm))

pub returns-in-Imm : goal.returns-in-Imm
returns-in-Imm c =
    let i = c.in-Imm in
    let fits : SFits w64 i.imm = search rules in
    let known = subst (λ imm. (rd rs1 : ℕ) → IsFlow c.of_immediate.result (operands c.args.linkage (Imm i.op (suc rd) rs1 imm))) (to_z-of_z w64 i.imm fits) c.of_immediate.ensures.flow in
    subst (λ instr. IsFlow c.unless_x0-in-Imm.result (operands c.args.linkage instr)) (sym i.is)
    (unless-x0 c.of_immediate.result c.unless_x0-in-Imm.result i.rd (λ rd. operands c.args.linkage (Imm i.op rd i.rs1 i.imm)) c.unless_x0-in-Imm.ensures (imm-x0 c.args.linkage i.op i.rs1 i.imm) (λ rd. known rd i.rs1))

pub returns-in-Op : goal.returns-in-Op
returns-in-Op c =
    let i = c.in-Op in
    subst (λ instr. IsFlow c.unless_x0-in-Op.result (operands c.args.linkage instr)) (sym i.is)
    (unless-x0 c.of_operation.result c.unless_x0-in-Op.result i.rd (λ rd. operands c.args.linkage (Op i.op rd i.rs1 i.rs2)) c.unless_x0-in-Op.ensures (op-x0 c.args.linkage i.op i.rs1 i.rs2) (λ rd. c.of_operation.ensures rd i.rs1 i.rs2))

use Rattle.std.proofs.Common.{pos, negsuc, w64, ◌≡◌, ℕ, zero, suc, ◌<◌, ◌≤◌, false, if◌then◌else◌, ℤ, List, [], ◌∷◌, ◌++◌, map, refl, sym, ap, subst, ◌∙◌, arith}
use mir.Val.{of_z}
use Rattle.std.proofs.Math.Dec.{eqb-suc-zero}
use Rattle.rv64_isa.specs.declared.instruction.Instr.TheVariants.{Imm}
use Rattle.rv64_isa.specs.declared.instruction.ImmOp.TheVariants.{Addi, Addiw}
use Rattle.rv64_isa.specs.declared.instruction.RegOp.TheVariants.{Add}
use Rattle.rv64_model.specs.declared.linkage.Linkage.{Linkage}
use Rattle.rv64_model.specs.declared.linkage.Linkage.TheVariants.{Copy}
use Rattle.rv64_model.specs.Carries.{Left, Right, below, is_zero, of_left, op_takes, operands}
use Rattle.taint_flow.specs.Flow.{IsFlow, IsWidth, reach}
use Rattle.taint_flow.specs.declared.flow.Flow.TheVariants.{Rising}
use Rattle.taint_flow.proofs.flow.of_immediate.Goals as goal

-- without the bytes of the second register
of_left-rights : (rights : List ℕ) → of_left (map Right rights) ≡ []
of_left-rights [] = refl
of_left-rights (i ∷ rights) = of_left-rights rights

of_left-both : (lefts rights : List ℕ) → of_left (map Left lefts ++ map Right rights) ≡ map Left lefts
of_left-both [] rights = of_left-rights rights
of_left-both (i ∷ lefts) rights = ap (λ l. Left i ∷ l) (of_left-both lefts rights)

four : IsWidth 4
four = ((let some : 0 < 4 = omega arith in some), (let few : 4 ≤ 8 = omega arith in few))

eight : IsWidth 8
eight = ((let some : 0 < 8 = omega arith in some), (let few : 8 ≤ 8 = omega arith in few))

-- ADDI of another number than 0, and ADDIW
not-zero : (imm : ℤ) → (of_z w64 imm ≡ 0 → ⊥) → is_zero imm ≡ false
not-zero (pos zero) not = absurd (not refl)
not-zero (pos (suc n)) not = eqb-suc-zero n
not-zero (negsuc n) not = refl

sums : (linkage : Linkage) (imm : ℤ) → (linkage ≡ Copy → ⊥) → (of_z w64 imm ≡ 0 → ⊥) → (rd rs1 : ℕ) → IsFlow (Rising 8) (operands linkage (Imm Addi (suc rd) rs1 imm))
sums Copy imm not some rd rs1 = absurd (not refl)
sums other imm not some rd rs1 = (eight, λ i. ap (λ t. if t then Left i ∷ [] else of_left (op_takes Add i)) (not-zero imm some) ∙ of_left-both (below (reach 8 i)) (below (reach 8 i)))

word-sums : (linkage : Linkage) (imm : ℤ) → (linkage ≡ Copy → ⊥) → (rd rs1 : ℕ) → IsFlow (Rising 4) (operands linkage (Imm Addiw (suc rd) rs1 imm))
word-sums Copy imm not rd rs1 = absurd (not refl)
word-sums other imm not rd rs1 = (four, λ i. of_left-both (below (reach 4 i)) (below (reach 4 i)))

pub returns-in_default-Addi-2-clause-flow : goal.returns-in_default-Addi-2-clause-flow
returns-in_default-Addi-2-clause-flow c rd rs1 =
    subst (λ op. IsFlow (Rising 8) (operands c.args.linkage (Imm op (suc rd) rs1 c.args.imm))) (sym c.in_default-Addi-2.is-1)
    (sums c.args.linkage c.args.imm c.in_default-Addi-2.not-Copy-0 c.if-imm-eq0.false rd rs1)

pub returns-in_default-Addiw-clause-flow : goal.returns-in_default-Addiw-clause-flow
returns-in_default-Addiw-clause-flow c rd rs1 =
    subst (λ op. IsFlow (Rising 4) (operands c.args.linkage (Imm op (suc rd) rs1 c.args.imm))) (sym c.in_default-Addiw.is-1) (word-sums c.args.linkage c.args.imm c.in_default-Addiw.not-Copy-0 rd rs1)

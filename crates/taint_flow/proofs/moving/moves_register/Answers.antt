use Rattle.std.proofs.Common.{◌↔◌, ◌<◌, w64, refl, subst, sym, rules}
use Rattle.std.proofs.lemmas.Int.{to_z-of_z}
use mir.Val.{SFits}
use Rattle.rv64_model.specs.Carries.{operands}
use Rattle.taint_flow.specs.Flow.{IsFirst}
use Rattle.taint_flow.specs.Moving.{Keeps, MovesRegister}
use Rattle.taint_flow.proofs.Moved.{kept-by, never, none-above, not-above, not-first, not-register, register-table}
use Rattle.taint_flow.proofs.moving.moves_register.Goals as goal

pub returns-in-First-clause-results : goal.returns-in-First-clause-results
returns-in-First-clause-results c moves sets first second loaded are =
    let instr = c.args.instr.now in
    kept-by sets first second loaded (operands c.args.linkage instr) (register-table c.args.linkage instr moves) are

pub returns-in_default : goal.returns-in_default
returns-in_default c = record { moves = (never, λ moves. absurd (not-register c.args.linkage c.args.instr.now c.in_default.not-Imm moves)); results = λ moves. absurd (not-register c.args.linkage c.args.instr.now c.in_default.not-Imm moves) }

pub returns-in_default-matches : goal.returns-in_default-matches
returns-in_default-matches c =
    let i = c.in-Imm in
    let fits : SFits w64 i.imm = search rules in
    let keeps = subst (λ imm. IsFirst c.of_immediate.result ↔ Keeps c.args.linkage i.op imm) (to_z-of_z w64 i.imm fits) c.of_immediate.ensures.moves in
    let not : MovesRegister c.args.linkage c.args.instr.now → ⊥ = λ moves. not-first c.of_immediate.result c.in_default-matches.not-First (keeps.1 (subst (MovesRegister c.args.linkage) i.is moves).1) in
    record { moves = (never, λ moves. absurd (not moves)); results = λ moves. absurd (not moves) }

pub returns-in-First-clause-moves : goal.returns-in-First-clause-moves
returns-in-First-clause-moves c =
    let i = c.in-Imm in
    let fits : SFits w64 i.imm = search rules in
    let keeps = subst (λ imm. IsFirst c.of_immediate.result ↔ Keeps c.args.linkage i.op imm) (to_z-of_z w64 i.imm fits) c.of_immediate.ensures.moves in
    (λ e. subst (MovesRegister c.args.linkage) (sym i.is) (subst (λ n. 0 < n) c.number.ensures.number c.if-number-gt0.true, keeps.0 (subst IsFirst (sym c.in-First.is) tt)), λ moves. refl)

pub returns-else-number-gt0-clause-moves : goal.returns-else-number-gt0-clause-moves
returns-else-number-gt0-clause-moves c = (none-above c.number.result c.if-number-gt0.false, λ moves. absurd (not-above c.number.result c.in-Imm.rd c.number.ensures.number c.if-number-gt0.false (subst (MovesRegister c.args.linkage) c.in-Imm.is moves).0))

pub returns-else-number-gt0-clause-results : goal.returns-else-number-gt0-clause-results
returns-else-number-gt0-clause-results c = λ moves. absurd (not-above c.number.result c.in-Imm.rd c.number.ensures.number c.if-number-gt0.false (subst (MovesRegister c.args.linkage) c.in-Imm.is moves).0)

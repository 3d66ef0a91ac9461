use Rattle.std.proofs.Common.{◌<◌, ℕ, Option, subst, sym, ap, ◌∙◌, unwrap_or}
use Rattle.taint_spans.specs.Numbered.{IsSet}
use Rattle.taint_steps.proofs.Apart.{copied-runs, moves-above}
use Rattle.taint_steps.proofs.moving.move_register.Goals as goal

pub copy_register-requires : goal.copy_register-requires
copy_register-requires c =
    let moves = c.moves_register.ensures.moves.0 c.if-not-moves_register.false in
    let is_to = sym (ap (λ (o : Option ℕ). unwrap_or o 0) c.in-Some-rd.is) ∙ c.rd.ensures in
    record { above = subst (λ (k : ℕ). 0 < k) (sym is_to) (moves-above c.args.linkage c.args.instr.now moves) }

pub returns-clause-runs : goal.returns-clause-runs
returns-clause-runs c done before memories =
    let m = c.args.member.now in
    let moves = c.moves_register.ensures.moves.0 c.if-not-moves_register.false in
    copied-runs c.args.sets.now c.args.linkage c.args.instr.now before m c.copy_register.new.self memories c.in-Some.from c.in-Some-rd.to c.registers.result.0.now c.registers.result.1.now
    (subst (IsSet c.args.sets.now) c.empty.ensures.zero c.empty.ensures.set) c.requires.registers moves (c.moves_register.ensures.results moves)
    (sym (ap (λ (o : Option ℕ). unwrap_or o 0) c.in-Some.is) ∙ c.rs1.ensures)
    (sym (ap (λ (o : Option ℕ). unwrap_or o 0) c.in-Some-rd.is) ∙ c.rd.ensures)
    c.copy_register.ensures.copies c.copy_register.ensures.zero c.registers.ensures.first c.registers.ensures.second

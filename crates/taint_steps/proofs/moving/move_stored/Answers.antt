use Rattle.std.proofs.Common.{◌≤◌, ℕ, take, subst, sym, ◌∙◌}
use Rattle.taint_spans.specs.Numbered.{IsSet}
use Rattle.taint_members.specs.Access.{Writes}
use Rattle.taint_steps.specs.Taking.{IsRegister}
use Rattle.taint_steps.proofs.Whole.{stored-runs}
use Rattle.taint_steps.proofs.moving.move_stored.Goals as goal

pub returns-clause-runs : goal.returns-clause-runs
returns-clause-runs c done =
    let m = c.args.member.now in
    let at = c.in-Some.at in
    let second = c.bytes_of.result.now in
    let len = c.stored_len.ensures.len in
    let stores = c.moves_stored.ensures.moves.0 c.if-not-moves_stored.false in
    stored-runs c.args.sets.now c.args.linkage c.args.instr.now c.args.before.now m c.args.memories.now c.write.new.memories at c.registers.result.0.now second
    (subst (IsSet c.args.sets.now) c.empty.ensures.zero c.empty.ensures.set) c.requires.registers stores (c.moves_stored.ensures.results stores)
    (subst (λ (k : ℕ). k ≤ 8) len c.stored_len.ensures.few)
    (sym c.accessed.ensures ∙ c.in-Some.is)
    (subst (λ (k : ℕ). Writes at (take k second) m c.args.memories.now c.write.new.memories) len c.in_ok-write.ensures.memory)
    c.registers.ensures.first (subst (λ (r : ℕ). IsRegister m.registers r second) c.rs2.ensures c.bytes_of.ensures)

pub write-requires-clause-held : goal.write-requires-clause-held
write-requires-clause-held c = c.requires.held

pub returns-in_err-write-clause-keys : goal.returns-in_err-write-clause-keys
returns-in_err-write-clause-keys c = c.write.ensures.keys

pub returns-clause-keys : goal.returns-clause-keys
returns-clause-keys c = c.write.ensures.keys

use Rattle.std.proofs.Common.{◌≤◌, ℕ, Option, subst, sym, ap, ◌∙◌, unwrap_or}
use Rattle.taint_spans.specs.Numbered.{IsSet}
use Rattle.taint_members.specs.Access.{PutsRead}
use Rattle.taint_steps.proofs.Whole.{loaded-runs}
use Rattle.taint_steps.proofs.moving.move_loaded.Goals as goal

pub returns-clause-runs : goal.returns-clause-runs
returns-clause-runs c done =
    let m = c.args.member.now in
    let memories = c.args.memories.now in
    let loads = c.moves_loaded.ensures.moves.0 c.if-not-moves_loaded.false in
    let len = c.loaded_len.ensures.len in
    loaded-runs c.args.sets.now c.args.linkage c.args.instr.now c.args.before.now m c.load_to.new.member memories c.in-Some.at c.in-Some-rd.reg c.registers.result.0.now c.registers.result.1.now
    (subst (IsSet c.args.sets.now) c.empty.ensures.zero c.empty.ensures.set) loads (c.moves_loaded.ensures.results loads)
    (subst (λ (k : ℕ). k ≤ 8) len c.loaded_len.ensures.few)
    (sym c.accessed.ensures ∙ c.in-Some.is)
    (sym (ap (λ (o : Option ℕ). unwrap_or o 0) c.in-Some-rd.is) ∙ c.rd.ensures)
    (c.load_to.ensures.above done)
    (subst (λ (k : ℕ). PutsRead m memories c.in-Some.at k c.in-Some-rd.reg m.registers c.load_to.new.member.registers) len (c.load_to.ensures.puts done))
    c.load_to.ensures.others c.registers.ensures.first c.registers.ensures.second c.requires.memory

pub load_to-requires : goal.load_to-requires
load_to-requires c = record { few = c.loaded_len.ensures.few; held = c.requires.held }

pub returns-clause-kept : goal.returns-clause-kept
returns-clause-kept c = c.load_to.ensures.kept

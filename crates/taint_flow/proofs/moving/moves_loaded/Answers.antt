use Rattle.std.proofs.Common.{◌≡◌, ◌<◌, [], refl, subst, sym}
use Rattle.rv64_model.specs.Carries.{Loaded, operands}
use Rattle.taint_spans.specs.Numbered.{IsSet, members_of}
use Rattle.taint_flow.specs.Names.{loaded_len}
use Rattle.taint_flow.proofs.Flows.{moved-by}
use Rattle.taint_flow.specs.Flow.{IsMemory}
use Rattle.taint_flow.specs.Moving.{MovesLoaded}
use Rattle.taint_flow.proofs.Moved.{loaded-table, never, none-above, not-above, not-loaded, not-memory}
use Rattle.taint_flow.proofs.moving.moves_loaded.Goals as goal

pub returns-in-Memory-clause-results : goal.returns-in-Memory-clause-results
returns-in-Memory-clause-results c loads first second loaded numbers are moves =
    let sets = c.args.sets.now in
    let instr = c.args.instr.now in
    moved-by sets first second loaded (subst (IsSet sets) c.empty.ensures.zero c.empty.ensures.set) (subst (λ s. members_of sets s ≡ []) c.empty.ensures.zero c.empty.ensures.empty)
    numbers Loaded (operands c.args.linkage instr) loaded (loaded_len instr) are (λ i. refl) (λ i below. loaded-table c.args.linkage instr loads i) moves

pub returns-in_default : goal.returns-in_default
returns-in_default c = record { moves = (never, λ moves. absurd (not-loaded c.args.linkage c.args.instr.now c.in_default.not-Load moves)); results = λ moves. absurd (not-loaded c.args.linkage c.args.instr.now c.in_default.not-Load moves) }

pub returns-in_default-matches : goal.returns-in_default-matches
returns-in_default-matches c =
    let not : MovesLoaded c.args.linkage c.args.instr.now → ⊥ = λ moves. not-memory c.of_load.result c.in_default-matches.not-Memory (c.of_load.ensures.moves.1 (subst (MovesLoaded c.args.linkage) c.in-Load.is moves).1) in
    record { moves = (never, λ moves. absurd (not moves)); results = λ moves. absurd (not moves) }

pub returns-in-Memory-clause-moves : goal.returns-in-Memory-clause-moves
returns-in-Memory-clause-moves c = (λ e. subst (MovesLoaded c.args.linkage) (sym c.in-Load.is) (subst (λ n. 0 < n) c.number.ensures.number c.if-number-gt0.true, c.of_load.ensures.moves.0 (subst IsMemory (sym c.in-Memory.is) tt)), λ moves. refl)

pub returns-else-number-gt0-clause-moves : goal.returns-else-number-gt0-clause-moves
returns-else-number-gt0-clause-moves c = (none-above c.number.result c.if-number-gt0.false, λ moves. absurd (not-above c.number.result c.in-Load.rd c.number.ensures.number c.if-number-gt0.false (subst (MovesLoaded c.args.linkage) c.in-Load.is moves).0))

pub returns-else-number-gt0-clause-results : goal.returns-else-number-gt0-clause-results
returns-else-number-gt0-clause-results c = λ moves. absurd (not-above c.number.result c.in-Load.rd c.number.ensures.number c.if-number-gt0.false (subst (MovesLoaded c.args.linkage) c.in-Load.is moves).0)

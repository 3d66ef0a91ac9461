use Rattle.std.proofs.Common.{◌≡◌, [], refl, subst, sym}
use Rattle.rv64_model.specs.Carries.{Right, operands}
use Rattle.rv64_model.specs.Operands.{stored_len}
use Rattle.taint_spans.specs.Numbered.{IsSet, members_of}
use Rattle.taint_flow.proofs.Flows.{moved-by}
use Rattle.taint_flow.specs.Flow.{IsSecond}
use Rattle.taint_flow.specs.Moving.{MovesStored}
use Rattle.taint_flow.proofs.Moved.{never, not-second, not-stored, stored-table}
use Rattle.taint_flow.proofs.moving.moves_stored.Goals as goal

pub returns-in-Second-clause-results : goal.returns-in-Second-clause-results
returns-in-Second-clause-results c stores first second loaded numbers are moves =
    let sets = c.args.sets.now in
    let instr = c.args.instr.now in
    moved-by sets first second loaded (subst (IsSet sets) c.empty.ensures.zero c.empty.ensures.set) (subst (λ s. members_of sets s ≡ []) c.empty.ensures.zero c.empty.ensures.empty)
    numbers Right (operands c.args.linkage instr) second (stored_len instr) are (λ i. refl) (λ i below. stored-table c.args.linkage instr stores i) moves

pub returns-in_default : goal.returns-in_default
returns-in_default c = record { moves = (never, λ moves. absurd (not-stored c.args.linkage c.args.instr.now c.in_default.not-Store moves)); results = λ moves. absurd (not-stored c.args.linkage c.args.instr.now c.in_default.not-Store moves) }

pub returns-in_default-matches : goal.returns-in_default-matches
returns-in_default-matches c =
    let not : MovesStored c.args.linkage c.args.instr.now → ⊥ = λ moves. not-second c.of_store.result c.in_default-matches.not-Second (c.of_store.ensures.moves.1 (subst (MovesStored c.args.linkage) c.in-Store.is moves)) in
    record { moves = (never, λ moves. absurd (not moves)); results = λ moves. absurd (not moves) }

pub returns-in-Second-clause-moves : goal.returns-in-Second-clause-moves
returns-in-Second-clause-moves c = (λ e. subst (MovesStored c.args.linkage) (sym c.in-Store.is) (c.of_store.ensures.moves.0 (subst IsSecond (sym c.in-Second.is) tt)), λ moves. refl)

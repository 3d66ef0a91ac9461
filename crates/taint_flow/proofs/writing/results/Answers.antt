use Rattle.std.proofs.Common.{refl}
use Rattle.rv64_model.specs.Carries.{Left, Right, Loaded, operands}
use Rattle.taint_flow.proofs.Flows.{extended-flow, extended-by, first-table, memory-table, moved-by, second-table}
use Rattle.taint_flow.proofs.writing.results.Goals as goal

pub returns-in-First-clause-results : goal.returns-in-First-clause-results
returns-in-First-clause-results c =
    let taken = operands c.args.linkage c.args.instr.now in
    moved-by c.args.sets.now c.args.first.now c.args.second.now c.args.loaded.now c.moved.ensures.set c.moved.ensures.empty c.moved.result Left taken c.args.first.now 8 c.requires.first (λ i. refl)
    (first-table c.result_flow-flow.result taken c.in-First.is c.result_flow-flow.ensures) c.moved.ensures.moves

pub returns-in-Second-clause-results : goal.returns-in-Second-clause-results
returns-in-Second-clause-results c =
    let taken = operands c.args.linkage c.args.instr.now in
    moved-by c.args.sets.now c.args.first.now c.args.second.now c.args.loaded.now c.moved-in-Second.ensures.set c.moved-in-Second.ensures.empty c.moved-in-Second.result Right taken c.args.second.now c.in-Second.count
    c.requires.second (λ i. refl) (second-table c.result_flow-flow.result taken c.in-Second.count c.in-Second.is c.result_flow-flow.ensures) c.moved-in-Second.ensures.moves

pub returns-in-Memory-clause-results : goal.returns-in-Memory-clause-results
returns-in-Memory-clause-results c =
    let taken = operands c.args.linkage c.args.instr.now in
    moved-by c.args.sets.now c.args.first.now c.args.second.now c.args.loaded.now c.moved-in-Memory.ensures.set c.moved-in-Memory.ensures.empty c.moved-in-Memory.result Loaded taken c.args.loaded.now c.in-Memory.count
    c.requires.loaded (λ i. refl) (memory-table c.result_flow-flow.result taken c.in-Memory.count c.in-Memory.is c.result_flow-flow.ensures) c.moved-in-Memory.ensures.moves

pub returns-in-Extended-clause-results : goal.returns-in-Extended-clause-results
returns-in-Extended-clause-results c =
    let taken = operands c.args.linkage c.args.instr.now in
    let flow = extended-flow c.result_flow-flow.result taken c.in-Extended.width c.in-Extended.is c.result_flow-flow.ensures in
    extended-by c.args.sets.now c.args.first.now c.args.second.now c.args.loaded.now taken c.in-Extended.width flow.0 flow.1 c.extended.result c.requires.loaded c.extended.ensures

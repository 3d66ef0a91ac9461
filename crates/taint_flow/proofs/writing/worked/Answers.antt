use Rattle.std.proofs.Common.{◌++◌, ap, sym, ◌∙◌}
use Rattle.rv64_model.specs.Carries.{Left, Right, both, first_bytes, operands}
use Rattle.taint_spans.specs.Numbered.{members_of}
use Rattle.taint_flow.specs.Flow.{reach}
use Rattle.taint_flow.specs.Gathered.{number_of}
use Rattle.taint_flow.proofs.Even.{all-alike}
use Rattle.taint_flow.proofs.Flows.{by-table, bytewise-flow, carried-flow, rising-flow, whole-flow}
use Rattle.taint_flow.proofs.writing.worked.Goals as goal

pub returns-in-Some-clause-results : goal.returns-in-Some-clause-results
returns-in-Some-clause-results c =
    let taken = operands c.args.linkage c.args.instr.now in
    all-alike c.args.sets.now c.unite.new.self (number_of c.args.first.now c.args.second.now c.args.loaded.now) taken c.in-Some.left c.in-Some.right c.in_ok-set.set
    (ap (members_of c.args.sets.now) (sym c.empty.ensures.zero) ∙ c.empty.ensures.empty) (c.in-Some.ensures.taken taken c.args.loaded.now c.requires.flow) c.in_ok-set.ensures.set c.in_ok-set.ensures.members

pub returns-in-Rising-clause-results : goal.returns-in-Rising-clause-results
returns-in-Rising-clause-results c =
    let taken = operands c.args.linkage c.args.instr.now in
    by-table c.rising.result c.args.sets.now c.rising.new.sets (number_of c.args.first.now c.args.second.now c.args.loaded.now) taken (λ i. first_bytes Left (reach c.in-Rising.width i))
    (λ i h. (rising-flow c.args.flow taken c.in-Rising.width c.in-Rising.is c.requires.flow).1 i) (c.rising.ensures.results c.args.second.now c.args.loaded.now)

pub returns-in-Carried-clause-results : goal.returns-in-Carried-clause-results
returns-in-Carried-clause-results c =
    let taken = operands c.args.linkage c.args.instr.now in
    by-table c.carried.result c.args.sets.now c.carried.new.sets (number_of c.args.first.now c.args.second.now c.args.loaded.now) taken
    (λ i. first_bytes Left (reach c.in-Carried.width i) ++ first_bytes Right (reach c.in-Carried.width i))
    (λ i h. (carried-flow c.args.flow taken c.in-Carried.width c.in-Carried.is c.requires.flow).1 i) (c.carried.ensures.results c.args.loaded.now)

pub returns-in-Whole-clause-results : goal.returns-in-Whole-clause-results
returns-in-Whole-clause-results c =
    let taken = operands c.args.linkage c.args.instr.now in
    by-table c.whole.result c.args.sets.now c.whole.new.sets (number_of c.args.first.now c.args.second.now c.args.loaded.now) taken (λ i. first_bytes Left c.in-Whole.width)
    (λ i h. (whole-flow c.args.flow taken c.in-Whole.width c.in-Whole.is c.requires.flow).1 i) (c.whole.ensures.results c.args.second.now c.args.loaded.now)

pub returns-in-Bytewise-clause-results : goal.returns-in-Bytewise-clause-results
returns-in-Bytewise-clause-results c =
    let taken = operands c.args.linkage c.args.instr.now in
    by-table c.bytewise.result c.args.sets.now c.bytewise.new.sets (number_of c.args.first.now c.args.second.now c.args.loaded.now) taken both
    (bytewise-flow c.args.flow taken c.in-Bytewise.is c.requires.flow) (c.bytewise.ensures.results c.args.loaded.now)

pub unite-requires-clause-first : goal.unite-requires-clause-first
unite-requires-clause-first c = (c.in-Some.ensures.sets c.args.sets.now c.requires.first c.requires.second).0

pub unite-requires-clause-second : goal.unite-requires-clause-second
unite-requires-clause-second c = (c.in-Some.ensures.sets c.args.sets.now c.requires.first c.requires.second).1

pub rising-requires : goal.rising-requires
rising-requires c = record { first = c.requires.first; width = (rising-flow c.args.flow (operands c.args.linkage c.args.instr.now) c.in-Rising.width c.in-Rising.is c.requires.flow).0 }

pub carried-requires : goal.carried-requires
carried-requires c = record { first = c.requires.first; second = c.requires.second; width = (carried-flow c.args.flow (operands c.args.linkage c.args.instr.now) c.in-Carried.width c.in-Carried.is c.requires.flow).0 }

pub whole-requires : goal.whole-requires
whole-requires c = record { first = c.requires.first; width = (whole-flow c.args.flow (operands c.args.linkage c.args.instr.now) c.in-Whole.width c.in-Whole.is c.requires.flow).0 }

pub bytewise-requires : goal.bytewise-requires
bytewise-requires c = record { first = c.requires.first; second = c.requires.second }

pub mixed-requires : goal.mixed-requires
mixed-requires c = record { first = c.requires.first; second = c.requires.second; loaded = c.requires.loaded }

pub returns-in-Rising-clause-before : goal.returns-in-Rising-clause-before
returns-in-Rising-clause-before c = c.rising.ensures.before

pub returns-in-Carried-clause-before : goal.returns-in-Carried-clause-before
returns-in-Carried-clause-before c = c.carried.ensures.before

pub returns-in-Whole-clause-before : goal.returns-in-Whole-clause-before
returns-in-Whole-clause-before c = c.whole.ensures.before

pub returns-in-Bytewise-clause-before : goal.returns-in-Bytewise-clause-before
returns-in-Bytewise-clause-before c = c.bytewise.ensures.before

pub returns-in-Some-clause-before : goal.returns-in-Some-clause-before
returns-in-Some-clause-before c = c.unite.ensures.before

pub returns-in_err-set-clause-before : goal.returns-in_err-set-clause-before
returns-in_err-set-clause-before c = c.unite.ensures.before

use Rattle.std.proofs.Common.{inl, inr, arith}
use Rattle.taint_flow.proofs.Even.{bytewise-two, carried-two, low-set, rising-two, whole-two}
use Rattle.taint_flow.proofs.writing.one_each.Goals as goal

pub returns-in_ok-set-in-Rising-clause-taken : goal.returns-in_ok-set-in-Rising-clause-taken
returns-in_ok-set-in-Rising-clause-taken c taken loaded is byte below =
    let first = c.args.first.now in
    let second = c.args.second.now in
    let low = c.in_ok-set-in-Rising in
    elim c.in-Rising.is [
      | inl rising ↦ rising-two first second loaded c.args.flow taken is low.set rising.0 low.ensures rising.1 byte below
      | inr whole ↦ whole-two first second loaded c.args.flow taken is low.set whole.0 low.ensures whole.1 byte below
    ]

pub returns-in_ok-right-in-Carried-clause-taken : goal.returns-in_ok-right-in-Carried-clause-taken
returns-in_ok-right-in-Carried-clause-taken c taken loaded is byte below =
    let left = c.in_ok-left-in-Carried in
    let right = c.in_ok-right-in-Carried in
    carried-two c.args.first.now c.args.second.now loaded c.args.flow taken is left.left right.right c.in-Carried.field-0 left.ensures right.ensures c.in-Carried.is byte below

pub returns-in_ok-right-in-Bytewise-clause-taken : goal.returns-in_ok-right-in-Bytewise-clause-taken
returns-in_ok-right-in-Bytewise-clause-taken c taken loaded is byte below =
    let left = c.in_ok-left-in-Bytewise in
    let right = c.in_ok-right-in-Bytewise in
    bytewise-two c.args.first.now c.args.second.now loaded c.args.flow taken is left.left right.right left.ensures right.ensures c.in-Bytewise.is byte below

pub returns-in_ok-set-in-Rising-clause-sets : goal.returns-in_ok-set-in-Rising-clause-sets
returns-in_ok-set-in-Rising-clause-sets c = λ sets first second. let is = low-set sets c.args.first.now c.in_ok-set-in-Rising.set first c.in_ok-set-in-Rising.ensures.lowest in (is, is)

pub returns-in_ok-right-in-Carried-clause-sets : goal.returns-in_ok-right-in-Carried-clause-sets
returns-in_ok-right-in-Carried-clause-sets c = λ sets first second. (low-set sets c.args.first.now c.in_ok-left-in-Carried.left first c.in_ok-left-in-Carried.ensures.lowest, low-set sets c.args.second.now c.in_ok-right-in-Carried.right second c.in_ok-right-in-Carried.ensures.lowest)

pub returns-in_ok-right-in-Bytewise-clause-sets : goal.returns-in_ok-right-in-Bytewise-clause-sets
returns-in_ok-right-in-Bytewise-clause-sets c = λ sets first second. (low-set sets c.args.first.now c.in_ok-left-in-Bytewise.left first (c.in_ok-left-in-Bytewise.ensures 0 (omega arith)), low-set sets c.args.second.now c.in_ok-right-in-Bytewise.right second (c.in_ok-right-in-Bytewise.ensures 0 (omega arith)))

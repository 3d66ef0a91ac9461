use Rattle.std.proofs.Common.{sym, ap, ◌∙◌}
use Rattle.taint_spans.specs.Numbered.{members_of}
use Rattle.taint_flow.proofs.Bytes.{before-trans, gathered-if, numbers-before}
use Rattle.taint_flow.proofs.gathering.gather.Goals as goal

pub returns-in_err-set-2-clause-before : goal.returns-in_err-set-2-clause-before
returns-in_err-set-2-clause-before c = before-trans c.args.sets.now c.with_bytes.new.sets c.with_bytes-2.new.sets c.with_bytes.ensures.before c.with_bytes-2.ensures.before

pub with_bytes-requires-3-clause-numbers : goal.with_bytes-requires-3-clause-numbers
with_bytes-requires-3-clause-numbers c = numbers-before c.args.sets.now c.with_bytes-2.new.sets c.args.loaded.now (before-trans c.args.sets.now c.with_bytes.new.sets c.with_bytes-2.new.sets c.with_bytes.ensures.before c.with_bytes-2.ensures.before) c.requires.loaded

pub returns-in_err-set-3-clause-before : goal.returns-in_err-set-3-clause-before
returns-in_err-set-3-clause-before c =
    before-trans c.args.sets.now c.with_bytes-2.new.sets c.with_bytes-3.new.sets
    (before-trans c.args.sets.now c.with_bytes.new.sets c.with_bytes-2.new.sets c.with_bytes.ensures.before c.with_bytes-2.ensures.before) c.with_bytes-3.ensures.before

pub with_bytes-requires-4-clause-numbers : goal.with_bytes-requires-4-clause-numbers
with_bytes-requires-4-clause-numbers c =
    numbers-before c.args.sets.now c.with_bytes-3.new.sets c.args.first.now
    (before-trans c.args.sets.now c.with_bytes-2.new.sets c.with_bytes-3.new.sets
    (before-trans c.args.sets.now c.with_bytes.new.sets c.with_bytes-2.new.sets c.with_bytes.ensures.before c.with_bytes-2.ensures.before) c.with_bytes-3.ensures.before)
    c.requires.first

pub returns-clause-gathers : goal.returns-clause-gathers
returns-clause-gathers c =
    gathered-if c.with_bytes-4.result c.args.sets.now c.with_bytes.new.sets c.with_bytes-2.new.sets c.with_bytes-3.new.sets c.with_bytes-4.new.sets
    c.args.first.now c.args.second.now c.args.loaded.now c.args.masks 0 c.in_ok-set.set c.in_ok-set-2.set c.in_ok-set-3.set c.address_bytes.result
    (ap (λ set. members_of c.args.sets.now set) (sym c.empty.ensures.zero) ∙ c.empty.ensures.empty)
    c.requires.first c.requires.second c.requires.loaded
    c.in_ok-set.ensures.takes c.with_bytes.ensures.before c.in_ok-set-2.ensures.takes c.with_bytes-2.ensures.before c.in_ok-set-3.ensures.takes c.with_bytes-3.ensures.before
    c.address_bytes.ensures c.with_bytes-4.ensures.takes

pub returns-clause-before : goal.returns-clause-before
returns-clause-before c =
    before-trans c.args.sets.now c.with_bytes-3.new.sets c.with_bytes-4.new.sets
    (before-trans c.args.sets.now c.with_bytes-2.new.sets c.with_bytes-3.new.sets
    (before-trans c.args.sets.now c.with_bytes.new.sets c.with_bytes-2.new.sets c.with_bytes.ensures.before c.with_bytes-2.ensures.before) c.with_bytes-3.ensures.before)
    c.with_bytes-4.ensures.before

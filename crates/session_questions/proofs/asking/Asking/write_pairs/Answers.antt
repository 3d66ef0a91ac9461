use Rattle.std.proofs.Common.{◌∙◌, arith}
use Rattle.generator.specs.Sums.{written_by}
use Rattle.session_questions.proofs.OneWrite.{none-written, one-answered, one-cost-answered, one-cost-failed, one-failed, one-nowhere}
use Rattle.session_questions.proofs.Written.{err-same, ok-never}
use Rattle.session_questions.proofs.asking.Asking.write_pairs.Goals as goal

pub returns-then-len-eq0-clause-known : goal.returns-then-len-eq0-clause-known
returns-then-len-eq0-clause-known g c = c.requires.known

pub returns-then-len-eq0-clause-ok : goal.returns-then-len-eq0-clause-ok
returns-then-len-eq0-clause-ok g c = none-written c.args.entries.now c.args.event c.written_by.result.now (written_by c.args.entry.now) c.written_by.ensures c.if-len-eq0.true

pub returns-then-len-eq0-clause-err : goal.returns-then-len-eq0-clause-err
returns-then-len-eq0-clause-err g c = tt

pub returns-then-len-eq0-clause-steps : goal.returns-then-len-eq0-clause-steps
returns-then-len-eq0-clause-steps g c = omega arith

pub returns-in_default-clause-known : goal.returns-in_default-clause-known
returns-in_default-clause-known g c = c.requires.known

pub returns-in_default-clause-ok : goal.returns-in_default-clause-ok
returns-in_default-clause-ok g c = tt

pub returns-in_default-clause-err : goal.returns-in_default-clause-err
returns-in_default-clause-err g c = one-nowhere c.args.entries.now c.args.event c.written_by.result.now (written_by c.args.entry.now) c.written_by.ensures c.if-len-eq0.false c.in_default.ensures.none

pub returns-in_default-clause-steps : goal.returns-in_default-clause-steps
returns-in_default-clause-steps g c = omega arith

pub back-answered-requires-clause-countable : goal.back-answered-requires-clause-countable
back-answered-requires-clause-countable g c = c.requires.countable

pub back-answered-requires-clause-indexed : goal.back-answered-requires-clause-indexed
back-answered-requires-clause-indexed g c = c.requires.known.indexed

pub back-answered-requires-clause-seen : goal.back-answered-requires-clause-seen
back-answered-requires-clause-seen g c = c.requires.known.seen

pub returns-in_err-answered-clause-known : goal.returns-in_err-answered-clause-known
returns-in_err-answered-clause-known g c = record { indexed = c.requires.known.indexed; seen = c.back-answered.ensures.seen; keeps = c.back-answered.ensures.keep ∙ c.requires.known.keeps }

pub returns-in_err-answered-clause-ok : goal.returns-in_err-answered-clause-ok
returns-in_err-answered-clause-ok g c = ok-never _ c.from_residual.result c.in_err-answered.field-0.0 c.from_residual.ensures.1

pub returns-in_err-answered-clause-err : goal.returns-in_err-answered-clause-err
returns-in_err-answered-clause-err g c =
    err-same c.from_residual.result c.in_err-answered.field-0.0 _ c.from_residual.ensures.1
    (one-failed c.args.entries.now c.args.event c.written_by.result.now (written_by c.args.entry.now) c.written_by.ensures c.if-len-eq0.false c.in-Some.target c.in-Some.ensures.some c.in_err-answered.field-0.0 c.in_err-answered.ensures.err)

pub returns-in_err-answered-clause-steps : goal.returns-in_err-answered-clause-steps
returns-in_err-answered-clause-steps g c =
    one-cost-failed c.args.entries.now c.args.event c.written_by.result.now (written_by c.args.entry.now) c.written_by.ensures c.if-len-eq0.false c.in-Some.target c.in-Some.ensures.some c.in_err-answered.field-0.0 c.args.steps.now c.back-answered.new.steps c.in_err-answered.ensures.err c.in_err-answered.ensures.unasked c.back-answered.ensures.bounded

pub returns-clause-known : goal.returns-clause-known
returns-clause-known g c = record { indexed = c.requires.known.indexed; seen = c.back-answered.ensures.seen; keeps = c.back-answered.ensures.keep ∙ c.requires.known.keeps }

pub returns-clause-ok : goal.returns-clause-ok
returns-clause-ok g c =
    one-answered c.args.entries.now c.args.event c.written_by.result.now (written_by c.args.entry.now) c.written_by.ensures c.if-len-eq0.false c.in-Some.target c.in-Some.ensures.some c.in_ok-answered.field-0 c.pair_count.result c.in_ok-answered.ensures.ok c.pair_count.ensures

pub returns-clause-err : goal.returns-clause-err
returns-clause-err g c = tt

pub returns-clause-steps : goal.returns-clause-steps
returns-clause-steps g c =
    one-cost-answered c.args.entries.now c.args.event c.written_by.result.now (written_by c.args.entry.now) c.written_by.ensures c.if-len-eq0.false c.in-Some.target c.in-Some.ensures.some c.in_ok-answered.field-0 c.args.steps.now c.back-answered.new.steps c.in_ok-answered.ensures.ok c.back-answered.ensures.bounded

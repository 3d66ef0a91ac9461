use Rattle.std.proofs.Common.{rules, refl}
use Rattle.result_log.proofs.Answering.{cause-no_memory, exactly-no_memory, exactly-read, is_no_memory}
use Rattle.result_log.proofs.Places.{none-read, some-read}
use Rattle.result_log.proofs.get.get_record.Goals as goal

pub returns-in_err-entry-clause-malformed : goal.returns-in_err-entry-clause-malformed
returns-in_err-entry-clause-malformed c =
    exactly-no_memory c.from_residual.result c.args.bytes.now c.args.at (is_no_memory c.from_residual.result c.from_residual.ensures.1)
    (some-read c.args.bytes.now c.in-Some.behind.now c.args.at (search rules) (search rules) (search rules))

pub returns-in_err-entry-clause-err : goal.returns-in_err-entry-clause-err
returns-in_err-entry-clause-err c =
    cause-no_memory c.from_residual.result c.args.bytes.now c.args.at (is_no_memory c.from_residual.result c.from_residual.ensures.1)
    (some-read c.args.bytes.now c.in-Some.behind.now c.args.at (search rules) (search rules) (search rules))

pub returns-in_default-2-clause-malformed : goal.returns-in_default-2-clause-malformed
returns-in_default-2-clause-malformed c =
    (λ _. none-read c.args.bytes.now c.in-Some.behind.now c.args.at (search rules) (search rules), λ _. refl)

pub returns-in_default-2-clause-err : goal.returns-in_default-2-clause-err
returns-in_default-2-clause-err c =
    (refl, none-read c.args.bytes.now c.in-Some.behind.now c.args.at (search rules) (search rules))

pub returns-clause-malformed : goal.returns-clause-malformed
returns-clause-malformed c =
    exactly-read _ c.args.bytes.now c.args.at
    (some-read c.args.bytes.now c.in-Some.behind.now c.args.at (search rules) (search rules)
    (c.in-Some-2.entry, (c.in-Some-2.rest.now, search rules)))

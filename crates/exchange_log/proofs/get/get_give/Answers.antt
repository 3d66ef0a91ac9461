use Rattle.std.proofs.Common.{rules, refl}
use Rattle.exchange_log.proofs.Answering.{cause-no_memory, exactly-no_memory, exactly-read, is_no_memory}
use Rattle.exchange_log.proofs.Reading.{none-read, one-read, some-read}
use Rattle.exchange_log.proofs.get.get_give.Goals as goal

pub returns-in_err-give-clause-malformed : goal.returns-in_err-give-clause-malformed
returns-in_err-give-clause-malformed c =
    exactly-no_memory c.from_residual.result c.args.bytes.now c.args.at (is_no_memory c.from_residual.result c.from_residual.ensures.1)
    (some-read c.fields_spelled_one_way.ensures.stands c.args.bytes.now c.in-Some.behind.now c.args.at (search rules) (search rules) (search rules))

pub returns-in_err-give-clause-err : goal.returns-in_err-give-clause-err
returns-in_err-give-clause-err c =
    cause-no_memory c.from_residual.result c.args.bytes.now c.args.at (is_no_memory c.from_residual.result c.from_residual.ensures.1)
    (some-read c.fields_spelled_one_way.ensures.stands c.args.bytes.now c.in-Some.behind.now c.args.at (search rules) (search rules) (search rules))

pub returns-in_default-2-clause-malformed : goal.returns-in_default-2-clause-malformed
returns-in_default-2-clause-malformed c =
    (λ _. none-read c.fields_spelled_one_way.ensures.front c.args.bytes.now c.in-Some.behind.now c.args.at (search rules) (search rules), λ _. refl)

pub returns-in_default-2-clause-err : goal.returns-in_default-2-clause-err
returns-in_default-2-clause-err c =
    (refl, none-read c.fields_spelled_one_way.ensures.front c.args.bytes.now c.in-Some.behind.now c.args.at (search rules) (search rules))

pub returns-clause-ok : goal.returns-clause-ok
returns-clause-ok c =
    one-read c.fields_spelled_one_way.ensures.stands c.args.bytes.now c.in-Some.behind.now c.in-Some-2.rest.now c.args.at c.in-Some-2.give
    (search rules) (search rules) (search rules)

pub returns-clause-malformed : goal.returns-clause-malformed
returns-clause-malformed c =
    exactly-read _ c.args.bytes.now c.args.at
    (some-read c.fields_spelled_one_way.ensures.stands c.args.bytes.now c.in-Some.behind.now c.args.at (search rules) (search rules)
    (c.in-Some-2.give, (c.in-Some-2.rest.now, search rules)))

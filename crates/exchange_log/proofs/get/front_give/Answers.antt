use Rattle.std.proofs.Common.{rules, ◌<◌}
use Rattle.std.proofs.lemmas.List.Elements.{All-from_get_or}
use Rattle.exchange_log.proofs.Options.{OnErr-always}
use Rattle.exchange_log.proofs.Reading.{give-starts, give_stands, no-give}
use Rattle.exchange_log.proofs.get.front_give.Goals as goal

pub returns-in_default-split_origins-clause-ok : goal.returns-in_default-split_origins-clause-ok
returns-in_default-split_origins-clause-ok c =
    no-give c.args.bytes.now c.in-Some.given.now c.in-Some.behind.now (search rules) (search rules)

pub returns-in_err-bytes-clause-err : goal.returns-in_err-bytes-clause-err
returns-in_err-bytes-clause-err c =
    let fields = c.fields_spelled_one_way.ensures in
    OnErr-always c.from_residual.result
    (give_stands fields.eight fields.four c.args.bytes.now c.in-Some.given.now c.in-Some.behind.now c.in-Some-split_origins.fields.now c.in-Some-split_origins.rest.now
    (All-from_get_or (λ b. b < 256) c.args.bytes.now 0 (λ k _. (c.type_inv.bytes k).fits)) (search rules) (search rules))

pub returns-in_err-origins-clause-err : goal.returns-in_err-origins-clause-err
returns-in_err-origins-clause-err c =
    let fields = c.fields_spelled_one_way.ensures in
    OnErr-always c.from_residual-in_err-origins.result
    (give_stands fields.eight fields.four c.args.bytes.now c.in-Some.given.now c.in-Some.behind.now c.in-Some-split_origins.fields.now c.in-Some-split_origins.rest.now
    (All-from_get_or (λ b. b < 256) c.args.bytes.now 0 (λ k _. (c.type_inv.bytes k).fits)) (search rules) (search rules))

pub returns-clause-ok : goal.returns-clause-ok
returns-clause-ok c =
    give-starts c.args.bytes.now c.in-Some.given.now c.in-Some.behind.now c.in-Some-split_origins.fields.now c.in-Some-split_origins.rest.now
    c.in_ok-bytes.bytes c.in_ok-origins.origins (search rules) (search rules) (search rules) (search rules) (search rules)

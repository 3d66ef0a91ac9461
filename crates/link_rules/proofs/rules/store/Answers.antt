use Rattle.std.proofs.Common.{◌<◌, arith}
use Rattle.rv64_model.specs.Operands.{store_len}
use Rattle.link_rules.proofs.Tables.{store-one}
use Rattle.link_rules.proofs.rules.store.Goals as goal

pub returns : goal.returns
returns c =
    let within : c.args.byte < store_len c.args.op = omega arith in
    store-one c.args.linkage c.args.op c.args.byte c.bit.result c.looks_up.result c.requires within c.bit.ensures c.looks_up.ensures

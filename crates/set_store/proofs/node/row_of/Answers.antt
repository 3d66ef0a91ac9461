use Rattle.std.proofs.Common.{◌/◌, ◌*◌, ◌%◌, ◌^◌, refl, arith}
use Rattle.set_store.specs.declared.node.Row.{Row}
use Rattle.set_store.proofs.Rows.{row-one}
use Rattle.set_store.proofs.node.row_of.Goals as goal

pub returns-clause-row : goal.returns-clause-row
returns-clause-row c =
    let item = c.args.item in
    let row : Row = record { event = item.event; row = item.at / 64; mask = 1 * 2 ^ (item.at % 64) % 2 ^ 64 } in
    (row-one item row (omega arith) refl refl refl).0

pub returns-clause-members : goal.returns-clause-members
returns-clause-members c =
    let item = c.args.item in
    let row : Row = record { event = item.event; row = item.at / 64; mask = 1 * 2 ^ (item.at % 64) % 2 ^ 64 } in
    (row-one item row (omega arith) refl refl refl).1

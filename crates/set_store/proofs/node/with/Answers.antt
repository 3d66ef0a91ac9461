use Rattle.std.proofs.Common.{◌/◌, ◌*◌, ◌%◌, ◌^◌, bit_or, refl, subst, arith}
use Rattle.set_store.specs.declared.node.Row.{Row}
use Rattle.set_store.specs.Sets.{IsUnionOf}
use Rattle.set_store.specs.Tries.{items_of}
use Rattle.set_store.proofs.Rows.{row-both, row-one, row-union}
use Rattle.set_store.proofs.node.with.Goals as goal

pub returns-clause-row : goal.returns-clause-row
returns-clause-row c =
    let item = c.args.item in
    let row = c.args.row in
    let one : Row = record { event = item.event; row = item.at / 64; mask = 1 * 2 ^ (item.at % 64) % 2 ^ 64 } in
    let both : Row = record { event = row.event; row = row.row; mask = bit_or row.mask one.mask } in
    row-both row one both c.requires.row (row-one item one (omega arith) refl refl refl).0 refl refl

pub returns-clause-members : goal.returns-clause-members
returns-clause-members c =
    let item = c.args.item in
    let row = c.args.row in
    let one : Row = record { event = item.event; row = item.at / 64; mask = 1 * 2 ^ (item.at % 64) % 2 ^ 64 } in
    let both : Row = record { event = row.event; row = row.row; mask = bit_or row.mask one.mask } in
    subst (λ l. IsUnionOf (items_of both) (items_of row) l) (row-one item one (omega arith) refl refl refl).1 (row-union row one both c.requires.event c.requires.place refl refl refl)

use Rattle.std.proofs.Common.{◌+◌, ◌*◌, ◌++◌, ap, refl, sym, ◌∙◌, arith}
use Rattle.set_store.specs.declared.item.Item.{Item}
use Rattle.set_store.proofs.Rows.{row-only}
use Rattle.set_store.proofs.node.push_row.Goals as goal

pub returns-then-row-byte : goal.returns-then-row-byte
returns-then-row-byte c =
    let row = c.args.row in
    let byte = c.from-byte.result in
    let item : Item = record { event = row.event; at = row.row * 64 + byte } in
    c.in_ok-push.ensures.items ∙ ap (λ l. c.args.items.now.items ++ l) (sym (row-only row byte item (omega arith) c.if-byte-lt-ROW_LEN.true c.if-row-byte.true refl refl))

use Rattle.std.proofs.Common.{◌≡◌, ◌++◌, subst, sym, add-one}
use Rattle.set_store.specs.Tries.{items_below}
use Rattle.set_store.proofs.Rows.{below-next, below-none}
use Rattle.set_store.proofs.node.push_bytes.Goals as goal

pub loop-byte-init : goal.loop-byte-init
loop-byte-init c = below-none c.args.row c.args.items.now.items

pub loop-byte-preserved : goal.loop-byte-preserved
loop-byte-preserved c =
    let old = c.args.items.now.items in
    let new = c.push_byte.new.items.items in
    let byte = c.loop-byte.byte in
    subst (λ n. new ≡ old ++ items_below c.args.row n) (sym (add-one byte)) (below-next c.args.row byte old c.loop-byte.items.items new c.loop-byte.invariant c.in_ok-push_byte.ensures)

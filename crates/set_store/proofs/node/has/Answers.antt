use Rattle.std.proofs.Common.{◌/◌, ◌%◌, ◌^◌, bit_and, sym, ◌∙◌}
use Rattle.std.proofs.lemmas.Bool.Decides.{Decides-eqb}
use Rattle.std.proofs.lemmas.Nat.Bits.{shr_and_one}
use Rattle.set_store.proofs.Rows.{row-at, row-place}
use Rattle.set_store.proofs.node.has.Goals as goal
use Rattle.set_store.proofs.node.has.Goals.{then-row-item-via-then-row-item, then-row-item-via-else-row-item+then-row-item-2}

pub returns-then-row-item : goal.returns-then-row-item
returns-then-row-item c = (
  λ e. cc,
  λ h.
      let at = row-place c.args.row c.args.item h in
      absurd (elim c.then-row-item.branch [ then-row-item-via-then-row-item w ↦ w.if-row-item.true at.0 | then-row-item-via-else-row-item+then-row-item-2 w ↦ w.if-row-item-2.true at.1 ]),
)

pub returns : goal.returns
returns c =
    let row = c.args.row in
    let item = c.args.item in
    let bit = shr_and_one row.mask (item.at % 64) in
    let test = Decides-eqb (bit_and (row.mask / 2 ^ (item.at % 64)) 1) 1 in
    (λ e. row-at row item c.if-row-item.false c.if-row-item-2.false (sym bit ∙ test.0 e), λ h. let at = row-place row item h in test.1 (bit ∙ at.2))

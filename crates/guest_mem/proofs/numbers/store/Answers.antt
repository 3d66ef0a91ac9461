-- What is written is what the number spells.
use Rattle.std.proofs.Common.{◌≡◌, ap, ◌∙◌, arith, take}
use Rattle.guest_mem.proofs.Spelled.{part-number, set-number}
use Rattle.guest_mem.proofs.numbers.store.Goals as goal

pub returns-in-1 : goal.returns-in-1
returns-in-1 c = set-number _ _ _ _ _ (omega arith) c.in-1.is c.to_le_bytes-spelled.ensures

pub returns-in-2 : goal.returns-in-2
returns-in-2 c = part-number _ _ _ 2 _ _ c.in-2.is (c.copy_from_slice.ensures.after ∙ ap (take 2) c.to_le_bytes-spelled.ensures)

pub returns-in-4 : goal.returns-in-4
returns-in-4 c = part-number _ _ _ 4 _ _ c.in-4.is (c.copy_from_slice-in-4.ensures.after ∙ ap (take 4) c.to_le_bytes-spelled.ensures)

pub returns-in_default : goal.returns-in_default
returns-in_default c =
    let is_8 : c.args.len ≡ 8 = omega arith in
    part-number _ _ _ 8 _ _ is_8 (c.copy_from_slice-in_default.ensures.after ∙ c.to_le_bytes-spelled.ensures)

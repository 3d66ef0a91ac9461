use Rattle.std.proofs.Common.{◌≡◌, ◌+◌, ◌*◌, ◌-◌, cond, ℕ, List, sym, ap, subst, ◌∙◌, ne_eqb, arith}
use Rattle.taint_spans.specs.Numbered.{IsItem, Numbered, StandAsBefore}
use Rattle.taint_members.specs.Rows.{ClearsResult}
use Rattle.taint_pages.specs.Rows.{byte_in}
use Rattle.taint_events.specs.Beginning.{AreItemsOfRow, BeginsRegisters, Counts}
use Rattle.taint_events.proofs.Growing.{item-stays, row-items}
use Rattle.taint_events.proofs.beginning.begun.Goals as goal

from-zero : (n : ℕ) → 0 + n ≡ n
from-zero n = omega arith

begins : (sets : Numbered) (event : ℕ) (row cleared : List ℕ) → AreItemsOfRow sets event 0 row → ClearsResult row cleared → BeginsRegisters sets event cleared
begins sets event row cleared items clears = record {
  items = λ r i above below other byte.
      subst (λ n. IsItem sets event (8 * (r - 1) + i) n) (sym (clears r i byte ∙ ap (λ b. cond b 0 (byte_in row r i)) (ne_eqb r 10 other)))
      (subst (λ k. IsItem sets event k (byte_in row r i)) (from-zero (8 * (r - 1) + i)) (items r i above below byte));
  result = λ i byte. clears 10 i byte;
}

row-stays : (old new : Numbered) (event first : ℕ) (row : List ℕ) → StandAsBefore old new → AreItemsOfRow old event first row → AreItemsOfRow new event first row
row-stays old new event first row stands items = λ r i above below byte. item-stays old new event (first + (8 * (r - 1) + i)) (byte_in row r i) stands (items r i above below byte)

pub returns-clause-registers : goal.returns-clause-registers
returns-clause-registers c =
    let row = c.in_ok-registers.registers in
    let from : c.in_ok-first.first + 0 ≡ c.in_ok-first.first = omega arith in
    begins c.receive-2.new.self c.args.event row c.clear_result.new.registers
    (row-stays c.receive.new.self c.receive-2.new.self c.args.event 0 row c.receive-2.ensures.before
    (row-items c.receive.new.self c.args.event 496 c.in_ok-first.first 0 row c.in_ok-first.ensures.received (omega arith) (subst (λ (n : ℕ). Counts n row) (sym from) c.in_ok-registers.ensures)))
    c.clear_result.ensures

pub returns-clause-slot : goal.returns-clause-slot
returns-clause-slot c =
    row-stays c.receive.new.self c.receive-2.new.self c.args.event 248 c.in_ok-count_row.field-0 c.receive-2.ensures.before
    (row-items c.receive.new.self c.args.event 496 c.in_ok-first.first 248 c.in_ok-count_row.field-0 c.in_ok-first.ensures.received (omega arith) c.in_ok-count_row.ensures)

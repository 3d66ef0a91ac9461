use Rattle.std.proofs.Common.{◌≡◌, ℕ, zero, suc, ◌<◌, Bool, true, false, nat_lt, List, slice_index, refl, sym, ◌∙◌, arith}
use Rattle.std.proofs.Math.ListN.{get_or-eq_default}
use Rattle.std.proofs.lemmas.Bool.{ltb-true, ltb-false}
use Rattle.taint_pages.specs.Rows.{byte_in}
use Rattle.taint_steps.specs.Taking.{IsRegister}
use Rattle.taint_steps.proofs.running.is_register_clear.Goals as goal

-- a register whose bytes have 0
empty-register : (row : List ℕ) (reg : ℕ) (numbers : List ℕ) → 0 < reg → ((i : ℕ) → i < 8 → byte_in row reg i ≡ 0) → IsRegister row reg numbers → (i : ℕ) → slice_index numbers i ≡ 0
empty-register row zero numbers above zeros is i = absurd (omega arith)
empty-register row (suc r) numbers above zeros is i = by (nat_lt i 8) refl
  where
    by : (t : Bool) → nat_lt i 8 ≡ t → slice_index numbers i ≡ 0
    by true e = let h = ltb-true i 8 e in is.1.bytes i h ∙ zeros i h
    by false e = let h = ltb-false i 8 e in let len = is.1.len in get_or-eq_default numbers 0 (omega (arith, h, len))

-- x0
empty-x0 : (row : List ℕ) (reg : ℕ) (numbers : List ℕ) → reg ≡ 0 → IsRegister row reg numbers → (i : ℕ) → slice_index numbers i ≡ 0
empty-x0 row zero numbers e is i = by (nat_lt i 8) refl
  where
    by : (t : Bool) → nat_lt i 8 ≡ t → slice_index numbers i ≡ 0
    by true e = is.bytes i (ltb-true i 8 e)
    by false e = is.zeros i (ltb-false i 8 e)
empty-x0 row (suc r) numbers e is i = absurd (omega arith)

above-zero : (n r : ℕ) → n ≡ r → (n ≡ 0 → ⊥) → 0 < r
above-zero n zero e not = absurd (not e)
above-zero n (suc r) e not = omega arith

pub returns-then-number-eq0 : goal.returns-then-number-eq0
returns-then-number-eq0 c told numbers is = empty-x0 c.args.row.now c.args.reg numbers (sym c.number.ensures.number ∙ c.if-number-eq0.true) is

pub returns-else-number-eq0 : goal.returns-else-number-eq0
returns-else-number-eq0 c told numbers is = empty-register c.args.row.now c.args.reg numbers (above-zero c.number.result c.args.reg c.number.ensures.number c.if-number-eq0.false) (c.is_clear.ensures told) is

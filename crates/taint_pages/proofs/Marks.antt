-- Rows whose bytes of one register were written, with its mark.
use Rattle.std.proofs.Common.{◌≡◌, ℕ, zero, suc, ◌+◌, ◌*◌, ◌<◌, ◌==◌, Bool, true, false, if◌then◌else◌, List, [], ◌∷◌, length, slice_index, slice_index_or, slice_set, refl, sym, ap, subst, ◌∙◌, arith}
use Rattle.std.proofs.lemmas.Bool.{eqb-true, eqb-false}
use Rattle.std.proofs.lemmas.List.{get_or-set_other, length-set}
use Rattle.taint_pages.specs.Rows.{AreMarked, IsRow, byte_in, row_len}
use Rattle.taint_pages.specs.declared.row.Numbers.{Numbers}

-- the mark that was set
mark-set : (marks : List Bool) (reg : ℕ) (mark : Bool) → slice_index_or (slice_set marks reg mark) reg true ≡ false → mark ≡ false
mark-set [] reg mark read = cc
mark-set (m ∷ marks) zero mark read = read
mark-set (m ∷ marks) (suc reg) mark read = mark-set marks reg mark read

module _ (old new : List ℕ) (reg : ℕ) (number : ℕ → ℕ) (puts : (r i : ℕ) → i < 8 → byte_in new r i ≡ (if r == reg then number i else byte_in old r i)) where
  other : (r i : ℕ) → i < 8 → (r == reg) ≡ false → byte_in new r i ≡ byte_in old r i
  other r i h e = puts r i h ∙ ap (λ (t : Bool). if t then number i else byte_in old r i) e

  written : (r i : ℕ) → i < 8 → (r == reg) ≡ true → byte_in new r i ≡ number i
  written r i h e = puts r i h ∙ ap (λ (t : Bool). if t then number i else byte_in old r i) e

  -- x0 wasn't written
  row-written : 0 < reg → length new ≡ row_len → IsRow old → IsRow new
  row-written above len is = record { len = len; zero = λ i h. ap (λ (k : ℕ). slice_index new k) (sym (first i)) ∙ by i h (0 == reg) refl }
    where
      first : (i : ℕ) → 8 * 0 + i ≡ i
      first i = omega arith

      by : (i : ℕ) → i < 8 → (t : Bool) → (0 == reg) ≡ t → byte_in new 0 i ≡ 0
      by i h true e = let none = eqb-true 0 reg e in absurd (omega (arith, none, above))
      by i h false e = other 0 i h e ∙ ap (λ (k : ℕ). slice_index old k) (first i) ∙ is.zero i h

  -- a register that isn't marked afterwards has zeros
  marks-written : (marks marked : List Bool) (mark : Bool) → marked ≡ slice_set marks reg mark → (mark ≡ false → (i : ℕ) → i < 8 → number i ≡ 0) → AreMarked old marks → AreMarked new marked
  marks-written marks marked mark is zeros are = record {
    len = ap (λ (l : List Bool). length l) is ∙ length-set marks reg mark ∙ are.len;
    zero = λ r i unmarked h. by r i h (ap (λ (l : List Bool). slice_index_or l r true) (sym is) ∙ unmarked) (r == reg) refl;
  }
    where
      by : (r i : ℕ) → i < 8 → slice_index_or (slice_set marks reg mark) r true ≡ false → (t : Bool) → (r == reg) ≡ t → byte_in new r i ≡ 0
      by r i h unmarked true e =
          let same = eqb-true r reg e in
          written r i h e ∙ zeros (mark-set marks reg mark (ap (λ (k : ℕ). slice_index_or (slice_set marks reg mark) k true) (sym same) ∙ unmarked)) i h
      by r i h unmarked false e =
          other r i h e ∙ are.zero r i (sym (get_or-set_other marks reg r mark true (eqb-false r reg e)) ∙ unmarked) h

-- numbers as a row keeps them, with their marks
abbrev pub AreKept : Numbers → Type 0
AreKept kept = IsRow kept.numbers × AreMarked kept.numbers kept.marked

-- so they are after the bytes of one register were written
pub kept-written : (was old new : Numbers) (reg : ℕ) (mark : Bool) (number : ℕ → ℕ) → old ≡ was → AreKept was → 0 < reg → length new.numbers ≡ length old.numbers
    → ((r i : ℕ) → i < 8 → byte_in new.numbers r i ≡ (if r == reg then number i else byte_in old.numbers r i)) → new.marked ≡ slice_set old.marked reg mark → (mark ≡ false → (i : ℕ) → i < 8 → number i ≡ 0) → AreKept new
kept-written was old new reg mark number same are above len puts marked zeros =
    let kept : AreKept old = subst AreKept (sym same) are in
    (row-written old.numbers new.numbers reg number puts above (len ∙ kept.0.len) kept.0, marks-written old.numbers new.numbers reg number puts old.marked new.marked mark marked zeros kept.1)

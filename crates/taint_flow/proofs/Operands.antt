-- The operands of masks, and those of a table.
use Rattle.std.proofs.Common.{◌≡◌, ◌↔◌, ℕ, ◌+◌, ◌<◌, Bool, true, false, nat_lt, IsTrue, List, length, replicate, slice_index, slice_set as set, Contains, refl, sym, subst, arith}
use Rattle.std.proofs.lemmas.Bool.Decides.{nat_tests}
use Rattle.std.proofs.lemmas.Bool.{ltb-true, ltb-false}
use Rattle.std.proofs.lemmas.Grind.{get_or-set_at}
use Rattle.std.proofs.lemmas.List.{get_or-set_other}
use Rattle.rv64_model.specs.Carries.{Operand}
use Rattle.taint_spans.specs.Numbered.{IsSet, Numbered, StandAsBefore}
use Rattle.link_rules.specs.declared.masks.Operands.{Operands}
use Rattle.link_rules.specs.Masks.{is_in}
use Rattle.taint_flow.specs.Gathered.{AreNumbers, Gathers, number_of}
use Rattle.taint_flow.specs.Results.{TakesOperands}
use Rattle.taint_flow.proofs.Bytes.{below-eight, address-has}

-- the number of an operand that masks have is that of a set
named-set : (sets : Numbered) (first second loaded : List ℕ) (masks : Operands) → AreNumbers sets first → AreNumbers sets second → AreNumbers sets loaded
    → (operand : Operand) → IsTrue (is_in masks operand) → IsSet sets (number_of first second loaded operand)
named-set sets first second loaded masks h1 h2 h3 operand h4 = grind (arith, nat_tests, address-has, below-eight)

-- masks that have exactly these operands take them
pub takes-named : (old mid new : Numbered) (first second loaded : List ℕ) (masks : Operands) (operands : List Operand) (set : ℕ)
    → AreNumbers old first → AreNumbers old second → AreNumbers old loaded → StandAsBefore old mid
    → ((operand : Operand) → IsTrue (is_in masks operand) ↔ Contains operands operand) → Gathers mid new first second loaded masks set
    → TakesOperands old new (number_of first second loaded) operands set
takes-named old mid new first second loaded masks operands set f s l before exact g = record {
  there = g.there;
  members = λ item. (
    λ h. let taken = (g.members item).0 h in record {
      operand = taken.operand;
      named = (exact taken.operand).0 taken.named;
      member = subst (λ members. Contains members item) (before.same (number_of first second loaded taken.operand) (named-set old first second loaded masks f s l taken.operand taken.named)) taken.member;
    },
    λ from. let named = (exact from.operand).1 from.named in (g.members item).1 (record {
      operand = from.operand;
      named = named;
      member = subst (λ members. Contains members item) (sym (before.same (number_of first second loaded from.operand) (named-set old first second loaded masks f s l from.operand named))) from.member;
    }),
  );
}

-- the set is that of whichever operands masks have exactly
abbrev pub Knows : Numbered → Numbered → (Operand → ℕ) → Operands → ℕ → Type 0
Knows old new number masks set = (taken : List Operand) → ((x : Operand) → IsTrue (is_in masks x) ↔ Contains taken x) → TakesOperands old new number taken set

pub known-same : (old new mid : Numbered) (number : Operand → ℕ) (masks : Operands) (s set : ℕ) → new ≡ mid → s ≡ set → Knows old mid number masks set → Knows old new number masks s
known-same old new mid number masks s set sets same known =
    subst (λ (n : ℕ). Knows old new number masks n) (sym same) (subst (λ n. Knows old n number masks set) (sym sets) known)

-- what was taken stays so
pub takes-still : (old mid new : Numbered) (number : Operand → ℕ) (operands : List Operand) (set : ℕ) → StandAsBefore mid new → TakesOperands old mid number operands set → TakesOperands old new number operands set
takes-still old mid new number operands set before t = record {
  there = before.there set t.there;
  members = λ item. (
    λ h. (t.members item).0 (subst (λ members. Contains members item) (before.same set t.there) h),
    λ from. subst (λ members. Contains members item) (sym (before.same set t.there)) ((t.members item).1 from),
  );
}

-- the first of eight
pub first-byte : (old new : Numbered) (number : Operand → ℕ) (operands : ℕ → List Operand) (s : ℕ) → TakesOperands old new number (operands 0) s
    → (k : ℕ) → k < 1 → TakesOperands old new number (operands k) (slice_index (replicate 8 s) k)
first-byte old new number operands s h1 k h2 = grind (arith, nat_tests)

-- one byte more
pub one-more : (old new : Numbered) (number : Operand → ℕ) (operands : ℕ → List Operand) (numbers : List ℕ) (n s : ℕ) → n < length numbers
    → ((k : ℕ) → k < n → TakesOperands old new number (operands k) (slice_index numbers k)) → TakesOperands old new number (operands n) s
    → (k : ℕ) → k < n + 1 → TakesOperands old new number (operands k) (slice_index (set numbers n s) k)
one-more old new number operands numbers n s inside all one k h = by (nat_lt k n) refl where
  by : (b : Bool) → nat_lt k n ≡ b → TakesOperands old new number (operands k) (slice_index (set numbers n s) k)
  by true e =
      let below = ltb-true k n e in
      let apart : k ≡ n → ⊥ = λ (same : k ≡ n). omega arith in
      subst (λ m. TakesOperands old new number (operands k) m) (sym (get_or-set_other numbers n k s 0 apart)) (all k below)
  by false e =
      let above = ltb-false k n e in
      let same : k ≡ n = omega arith in
      subst (λ m. TakesOperands old new number (operands k) m) (sym (get_or-set_at numbers n k s 0 same inside)) (subst (λ m. TakesOperands old new number (operands m) s) (sym same) one)

-- How many runs begin before a place.
use Rattle.std.proofs.Common.{◌≡◌, ℕ, zero, suc, ◌<◌, ◌≤◌, ◌∙◌, Bool, true, false, if◌then◌else◌, nat_le, nat_lt, List, [], ◌∷◌, length, get_or, refl, sym, ap, subst, arith, ltb-true, le-leb}
use Rattle.std.specs.List.Sorted.{IsNonDecreasingBy}
use Rattle.guest_files.specs.declared.runs.Run.{Run}
use Rattle.guest_files.specs.Runs.{AreRuns, count_before, count_until, next_start}

-- runs begin one behind the other
starts-from : (from : ℕ) (rs : List Run) (end i : ℕ) (d : Run) → AreRuns from rs end → i < length rs → from ≤ (get_or rs i d).start
starts-from from [] end i d runs within = absurd (omega (arith, within))
starts-from from (r ∷ rs) end zero d runs within = omega (arith, runs.0)
starts-from from (r ∷ rs) end (suc i) d runs within =
    let rest = starts-from (next_start rs end) rs end i d runs.4 (omega (arith, within)) in
    omega (arith, rest, runs.2)

pub AreRuns-sorted : (from : ℕ) (rs : List Run) (end : ℕ) → AreRuns from rs end → IsNonDecreasingBy (λ r. r.start) rs
AreRuns-sorted from [] end runs i j d order within = absurd (omega (arith, within))
AreRuns-sorted from (r ∷ rs) end runs zero j d order within =
    let later = starts-from from (r ∷ rs) end j d runs within in
    omega (arith, later, runs.0)
AreRuns-sorted from (r ∷ rs) end runs (suc i) zero d order within = absurd (omega (arith, order))
AreRuns-sorted from (r ∷ rs) end runs (suc i) (suc j) d order within = AreRuns-sorted (next_start rs end) rs end runs.4 i j d (omega (arith, order)) (omega (arith, within))

-- a point up to which all begin before a place, and from which on none does
pub count_before-point : (place : ℕ) (rs : List Run) (i : ℕ) → i ≤ length rs → ((k : ℕ) (d : Run) → 0 ≤ k → k < i → nat_lt (get_or rs k d).start place ≡ true) → ((k : ℕ) (d : Run) → i ≤ k → k < length rs → nat_lt (get_or rs k d).start place ≡ false) → i ≡ count_before place rs
count_before-point place [] i few front back = omega (arith, few)
count_before-point place (r ∷ rs) zero few front back =
    sym (ap (λ (b : Bool). if b then suc (count_before place rs) else 0) (back 0 r (omega arith) (omega arith)))
count_before-point place (r ∷ rs) (suc i) few front back =
    ap (λ (n : ℕ). suc n) (count_before-point place rs i (omega (arith, few)) (λ k d some below. front (suc k) d (omega arith) (omega (arith, below))) (λ k d above below. back (suc k) d (omega (arith, above)) (omega (arith, below))))
    ∙ sym (ap (λ (b : Bool). if b then suc (count_before place rs) else 0) (front 0 r (omega arith) (omega arith)))

pub count_until-point : (place : ℕ) (rs : List Run) (i : ℕ) → i ≤ length rs → ((k : ℕ) (d : Run) → 0 ≤ k → k < i → nat_le (get_or rs k d).start place ≡ true) → ((k : ℕ) (d : Run) → i ≤ k → k < length rs → nat_le (get_or rs k d).start place ≡ false) → i ≡ count_until place rs
count_until-point place [] i few front back = omega (arith, few)
count_until-point place (r ∷ rs) zero few front back =
    sym (ap (λ (b : Bool). if b then suc (count_until place rs) else 0) (back 0 r (omega arith) (omega arith)))
count_until-point place (r ∷ rs) (suc i) few front back =
    ap (λ (n : ℕ). suc n) (count_until-point place rs i (omega (arith, few)) (λ k d some below. front (suc k) d (omega arith) (omega (arith, below))) (λ k d above below. back (suc k) d (omega (arith, above)) (omega (arith, below))))
    ∙ sym (ap (λ (b : Bool). if b then suc (count_until place rs) else 0) (front 0 r (omega arith) (omega arith)))

-- fewer begin before a place than up to one behind it
pub counts-in_order : (place later : ℕ) (rs : List Run) → place ≤ later → count_before place rs ≤ count_until later rs
counts-in_order place later [] order = omega arith
counts-in_order place later (r ∷ rs) order = by (nat_lt r.start place) refl (counts-in_order place later rs order)
  where
    by : (b : Bool) → nat_lt r.start place ≡ b → count_before place rs ≤ count_until later rs → (if b then suc (count_before place rs) else 0) ≤ count_until later (r ∷ rs)
    by true is rest =
        subst (λ (b : Bool). suc (count_before place rs) ≤ (if b then suc (count_until later rs) else 0)) (sym (le-leb r.start later (omega (arith, order, ltb-true r.start place is)))) (omega (arith, rest))
    by false is rest = omega arith

-- the first run begins up to every place
pub count_until-some : (place end : ℕ) (rs : List Run) → AreRuns 0 rs end → place < end → 1 ≤ count_until place rs
count_until-some place end [] runs some = absurd (omega (arith, runs, some))
count_until-some place end (r ∷ rs) runs some =
    subst (λ (b : Bool). 1 ≤ (if b then suc (count_until place rs) else 0)) (sym (le-leb r.start place (omega (arith, runs.0)))) (omega arith)

-- What the checks of a list of records say of one record.
use Rattle.std.proofs.Common.{◌≡◌, ℕ, ◌+◌, ◌≤◌, ◌==◌, if◌then◌else◌, length, Bool, false, List, [], ◌∷◌, ◌++◌, Some, None, refl, sym, ap, subst, arith}
use Rattle.std.proofs.lemmas.Bool.Decides.{nat_tests}
use Rattle.std.proofs.lemmas.Bool.{eqb-true, or_parts, not-false}
use Rattle.arn_base.specs.declared.records.Record.{Record}
use Rattle.history_model.specs.Broken.{broken_from, cant_follow, child_in, comes_wrong, first_broken, greatest, greatest_after, greatest_from, has_blocks_wrong, lacks_process, lacks_slice, misnumbers, start_in}

pub record Stands (before : List Record) (e : Record) : Type 0 where
  pub comes : comes_wrong before e ≡ false
  pub process : lacks_process before e ≡ false
  pub slice : lacks_slice before e ≡ false
  pub blocks : has_blocks_wrong (start_in e) ≡ false
  pub numbers : misnumbers before (child_in e) ≡ false

can-follow : (before : List Record) (e : Record) → cant_follow before e ≡ false → Stands before e
can-follow before e h1 = grind (arith, nat_tests, or_parts)

-- the next record stands, and so do those behind it
pub follows : (before : List Record) (e : Record) (rest : List Record) → broken_from before (e ∷ rest) ≡ None → Stands before e × (broken_from (before ++ e ∷ []) rest ≡ None)
follows before e rest broken = by_test (cant_follow before e) refl broken
  where
    by_test : (b : Bool) → cant_follow before e ≡ b → (if b then Some (length before) else broken_from (before ++ e ∷ []) rest) ≡ None → Stands before e × (broken_from (before ++ e ∷ []) rest ≡ None)
    by_test b h1 h2 = grind (arith, nat_tests, can-follow)

-- There are no more processes than records.

pub child-number : (before : List Record) (child : ℕ) → misnumbers before (Some child) ≡ false → child ≡ greatest before + 1
child-number before child m = eqb-true child (greatest before + 1) (not-false (child == greatest before + 1) m)

after-few : (before : List Record) (e : Record) (n : ℕ) → misnumbers before (child_in e) ≡ false → greatest before ≤ n → greatest_after e (greatest before) ≤ n + 1
after-few before e n h1 h2 = grind (arith, nat_tests, child-number)

pub greatest-append : (n : ℕ) (rs : List Record) (e : Record) → greatest_from n (rs ++ e ∷ []) ≡ greatest_after e (greatest_from n rs)
greatest-append n [] e = refl
greatest-append n (r ∷ rs) e = greatest-append (greatest_after r n) rs e

most-few : (rest before : List Record) (n : ℕ) → broken_from before rest ≡ None → greatest before ≤ n → greatest_from (greatest before) rest ≤ n + length rest
most-few [] before n broken le = omega arith
most-few (e ∷ rest) before n broken le =
    let more = follows before e rest broken in
    let same = greatest-append 0 before e in
    let next : greatest (before ++ e ∷ []) ≤ n + 1 = subst (λ (k : ℕ). k ≤ n + 1) (sym same) (after-few before e n more.0.numbers le) in
    let ih = most-few rest (before ++ e ∷ []) (n + 1) more.1 next in
    let there : greatest_from (greatest (before ++ e ∷ [])) rest ≡ greatest_from (greatest_after e (greatest before)) rest = ap (λ (k : ℕ). greatest_from k rest) same in
    let len : length (e ∷ rest) ≡ length rest + 1 = omega arith in
    omega arith

pub processes-few : (entries : List Record) → first_broken entries ≡ None → greatest entries ≤ length entries
processes-few entries broken = let le = most-few entries [] 0 broken (omega arith) in omega arith

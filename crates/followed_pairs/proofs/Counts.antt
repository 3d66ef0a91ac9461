-- What groups count together is at most what all records count.
use Rattle.std.proofs.Common.{◌≡◌, ℕ, suc, ◌+◌, ◌<◌, ◌≤◌, ◌==◌, Bool, true, false, List, [], ◌∷◌, All, sum_by, Option, Some, None, if◌then◌else◌, refl, sym, subst, ◌∙◌, arith, eqb-true, zero-add}
use Rattle.std.proofs.lemmas.List.Sums.{sum_by-cons}
use Rattle.arn_base.specs.declared.records.Record.{Record}
use Rattle.arn_base.specs.declared.records.Record.TheVariants as entry
use Rattle.exchange_graph.specs.Reach.{Rises}
use Rattle.history_model.specs.Groups.{Groups, count_from, count_of, group_of, is_number, ran_for}
use Rattle.history_model.specs.Moments.{ran_in, total}

-- sums of sums
sum-both : (f g : ℕ → ℕ) (xs : List ℕ) → sum_by (λ x. f x + g x) xs ≡ sum_by f xs + sum_by g xs
sum-both f g [] = refl
sum-both f g (x ∷ xs) =
    let all : sum_by (λ y. f y + g y) (x ∷ xs) ≡ (f x + g x) + sum_by (λ y. f y + g y) xs = sum_by-cons (λ y. f y + g y) x xs in
    let left : sum_by f (x ∷ xs) ≡ f x + sum_by f xs = sum_by-cons f x xs in
    let right : sum_by g (x ∷ xs) ≡ g x + sum_by g xs = sum_by-cons g x xs in
    let rest = sum-both f g xs in
    omega arith

sum-zero : (xs : List ℕ) → sum_by (λ (x : ℕ). 0) xs ≡ 0
sum-zero [] = refl
sum-zero (x ∷ xs) = sum_by-cons (λ (y : ℕ). 0) x xs ∙ zero-add (sum_by (λ (y : ℕ). 0) xs) ∙ sum-zero xs

-- one of some numbers at most is this one
abbrev one_at : ℕ → Option ℕ → ℕ → ℕ
one_at ran o g = if is_number g o then ran else 0

above-none : (ran m : ℕ) (xs : List ℕ) → All (λ x. m < x) xs → sum_by (one_at ran (Some m)) xs ≡ 0
above-none ran m [] h = refl
above-none ran m (x ∷ xs) h = sum_by-cons (one_at ran (Some m)) x xs ∙ by_test (m == x) refl (above-none ran m xs (λ k d l. h (suc k) d (omega arith)))
  where
    by_test : (b : Bool) → (m == x) ≡ b → sum_by (one_at ran (Some m)) xs ≡ 0 → (if b then ran else 0) + sum_by (one_at ran (Some m)) xs ≡ 0
    by_test true e rest = absurd (let same = eqb-true m x e in let less : m < x = h 0 0 (omega arith) in omega arith)
    by_test false e rest = zero-add (sum_by (one_at ran (Some m)) xs) ∙ rest

once : (ran m : ℕ) (xs : List ℕ) → Rises xs → sum_by (one_at ran (Some m)) xs ≤ ran
once ran m [] r = omega arith
once ran m (x ∷ xs) r = subst (λ (n : ℕ). n ≤ ran) (sym (sum_by-cons (one_at ran (Some m)) x xs)) (by_test (m == x) refl (once ran m xs r.1))
  where
    by_test : (b : Bool) → (m == x) ≡ b → sum_by (one_at ran (Some m)) xs ≤ ran → (if b then ran else 0) + sum_by (one_at ran (Some m)) xs ≤ ran
    by_test true e rest = let none = above-none ran m xs (subst (λ (n : ℕ). All (λ y. n < y) xs) (sym (eqb-true m x e)) r.0) in omega arith
    by_test false e rest = omega arith

at-most-one : (ran : ℕ) (o : Option ℕ) (xs : List ℕ) → Rises xs → sum_by (one_at ran o) xs ≤ ran
at-most-one ran None xs r = let none = sum-zero xs in omega arith
at-most-one ran (Some m) xs r = once ran m xs r

record-most : (groups : Groups) (e : Record) (xs : List ℕ) → Rises xs → sum_by (λ g. ran_for g groups e) xs ≤ ran_in e
record-most groups (entry.Slice pid ran) xs r = at-most-one ran (groups pid) xs r
record-most groups (entry.File name bytes) xs r = let none = sum-zero xs in omega arith
record-most groups (entry.Boot name give) xs r = let none = sum-zero xs in omega arith
record-most groups (entry.Typed bytes) xs r = let none = sum-zero xs in omega arith
record-most groups (entry.Unplug device) xs r = let none = sum-zero xs in omega arith
record-most groups (entry.Signal pid signal cut handler) xs r = let none = sum-zero xs in omega arith
record-most groups (entry.Call pid number result more) xs r = let none = sum-zero xs in omega arith
record-most groups (entry.End pid status) xs r = let none = sum-zero xs in omega arith

count-most : (groups : Groups) (entries : List Record) (xs : List ℕ) → Rises xs → sum_by (λ g. count_from g groups entries) xs ≤ total entries
count-most groups [] xs r = let none = sum-zero xs in omega arith
count-most groups (e ∷ entries) xs r =
    let both = sum-both (λ g. ran_for g groups e) (λ g. count_from g groups entries) xs in
    let first = record-most groups e xs r in
    let rest = count-most groups entries xs r in
    omega arith

pub counts-most : (entries : List Record) (xs : List ℕ) → Rises xs → sum_by (count_of entries) xs ≤ total entries
counts-most entries xs r = count-most (group_of entries) entries xs r

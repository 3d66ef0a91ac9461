-- Numbers of those that live.
use Rattle.std.proofs.lemmas.Bool.Decides.{nat_tests}
use Rattle.std.proofs.Common.{◌≡◌, ℕ, zero, suc, ◌+◌, ◌≤◌, Bool, true, false, cond, ◌&&◌, List, [], ◌∷◌, length, Option, Some, None, is_some, refl, sym, ap, ap₂, ◌∙◌, arith, add-one, filter, option_and_then}
use Rattle.std.specs.List.{range_with_len}
use Rattle.std.proofs.lemmas.Option.{slice_get_past}
use Rattle.parts_model.specs.Numbered.{nth}
use Rattle.parts_model.specs.Processes.{Process, Processes, is_live, live, live_process, numbers_from}

-- a test that fails
skipped : {A : Type 0} (b : Bool) (x : A) (l : List A) → b ≡ false → cond b (x ∷ l) l ≡ l
skipped b x l e = ap (λ (c : Bool). cond c (x ∷ l) l) e

-- two tests that agree keep the same numbers, of as many as may pass
pub same-from : (n m a : ℕ) (p q : ℕ → Bool) → ((k : ℕ) → p k ≡ q k) → ((k : ℕ) → a + n ≤ k → p k ≡ false) → ((k : ℕ) → a + m ≤ k → q k ≡ false) → filter p (range_with_len a n) ≡ filter q (range_with_len a m)
same-from zero zero a p q same low high = refl
same-from zero (suc m) a p q same low high =
    same-from zero m (a + 1) p q same (λ k h. low k (omega arith)) (λ k h. high k (omega arith))
    ∙ sym (skipped (q a) a (filter q (range_with_len (a + 1) m)) (sym (same a) ∙ low a (omega arith)))
same-from (suc n) zero a p q same low high =
    skipped (p a) a (filter p (range_with_len (a + 1) n)) (same a ∙ high a (omega arith))
    ∙ same-from n zero (a + 1) p q same (λ k h. low k (omega arith)) (λ k h. high k (omega arith))
same-from (suc n) (suc m) a p q same low high =
    ap₂ (λ (b : Bool) (l : List ℕ). cond b (a ∷ l) l) (same a)
    (same-from n m (a + 1) p q same (λ k h. low k (omega arith)) (λ k h. high k (omega arith)))

-- nobody stands behind the end
pub nth-past : {A : Type 0} (xs : List (Option A)) (i : ℕ) → length xs ≤ i → nth xs i ≡ None
nth-past xs i h = ap (option_and_then (λ thing. thing)) (slice_get_past xs i h)

-- whether a process of the table lives
abbrev alive : Option Process → Bool
alive None = false
alive (Some x) = is_live x

is-alive : (x : Process) (b : Bool) → is_some (cond b (Some x) None) ≡ b
is-alive x true = refl
is-alive x false = refl

alive-some : (o : Option Process) → is_some (option_and_then (λ (x : Process). cond (is_live x) (Some x) None) o) ≡ alive o
alive-some None = refl
alive-some (Some x) = is-alive x (is_live x)

lives-at : (all : Processes) (i : ℕ) → is_some (live_process all (i + 1)) ≡ alive (nth all i)
lives-at all i = ap (λ (k : ℕ). is_some (live_process all k)) (add-one i) ∙ alive-some (nth all i)

pub lives-past : (all : Processes) (k : ℕ) → suc (length all) ≤ k → is_some (live_process all k) ≡ false
lives-past all zero h = refl
lives-past all (suc i) h = alive-some (nth all i) ∙ ap alive (nth-past all i (omega arith))

numbers : (all : Processes) (a : ℕ) (p : ℕ → Bool) → ((i : ℕ) → p (i + a) ≡ alive (nth all i)) → numbers_from is_live a all ≡ filter p (range_with_len a (length all))
numbers [] a p is = refl
numbers (None ∷ all) a p is =
    numbers all (a + 1) p (λ i. ap p (let e : i + (a + 1) ≡ suc i + a = omega arith in e) ∙ is (suc i))
    ∙ sym (skipped (p a) a (filter p (range_with_len (a + 1) (length all))) (ap p (let e : a ≡ 0 + a = omega arith in e) ∙ is 0))
numbers (Some x ∷ all) a p is =
    ap₂ (λ (b : Bool) (l : List ℕ). cond b (a ∷ l) l)
    (sym (ap p (let e : a ≡ 0 + a = omega arith in e) ∙ is 0))
    (numbers all (a + 1) p (λ i. ap p (let e : i + (a + 1) ≡ suc i + a = omega arith in e) ∙ is (suc i)))

-- the live processes, as numbers that pass a test
pub live-are : (all : Processes) → live all ≡ filter (λ k. is_some (live_process all k)) (range_with_len 0 (suc (length all)))
live-are all = numbers all 1 (λ k. is_some (live_process all k)) (lives-at all)

-- one test behind another
and-true : (b : Bool) (x : ℕ) (l : List ℕ) → cond b (x ∷ l) l ≡ cond (b && true) (x ∷ l) l
and-true true x l = refl
and-true false x l = refl

and-false : (b : Bool) (x : ℕ) (l : List ℕ) → l ≡ cond (b && false) (x ∷ l) l
and-false true x l = refl
and-false false x l = refl

split : (p : ℕ → Bool) (x : ℕ) (c : Bool) (l : List ℕ) → filter p (cond c (x ∷ l) l) ≡ cond (p x && c) (x ∷ filter p l) (filter p l)
split p x true l = and-true (p x) x (filter p l)
split p x false l = and-false (p x) x (filter p l)

pub filter-both : (p q : ℕ → Bool) (xs : List ℕ) → filter p (filter q xs) ≡ filter (λ x. p x && q x) xs
filter-both p q [] = refl
filter-both p q (x ∷ xs) = grind (arith, nat_tests, split p x (q x) (filter q xs), filter-both p q xs)

-- The process of a number, among the numbers of those that live.
use Rattle.std.proofs.Common.{◌≡◌, ℕ, zero, suc, ◌+◌, ◌<◌, ◌==◌, Bool, true, false, cond, List, [], ◌∷◌, Option, Some, None, refl, ap, ◌∙◌, ne_eqb, arith}
use Rattle.std.specs.Prelude.{find, option_and_then, option_map}
use Rattle.std.proofs.lemmas.Bool.{eq-eqb}
use Rattle.parts_model.specs.Numbered.{nth}
use Rattle.parts_model.specs.Processes.{Process, Processes, is_live, live, live_process, numbers_from}

-- a number, where a process lives
abbrev if_lives : ℕ → Option Process → Option ℕ
if_lives n x = option_map (λ _. n) (option_and_then (λ p. cond (is_live p) (Some p) None) x)

-- a number that isn't the first of a list
passed-by : (n pid : ℕ) (pids : List ℕ) (found : Option ℕ) → (pid == n) ≡ false → find (λ p. p == n) pids ≡ found → find (λ p. p == n) (pid ∷ pids) ≡ found
passed-by n pid pids found other rest = ap (λ b. cond b (Some pid) (find (λ p. p == n) pids)) other ∙ rest

-- and one that is
come-to : (n pid : ℕ) (pids : List ℕ) → pid ≡ n → find (λ p. p == n) (pid ∷ pids) ≡ Some n
come-to n pid pids is = ap (λ b. cond b (Some pid) (find (λ p. p == n) pids)) (eq-eqb pid n is) ∙ ap (λ (i : ℕ). Some i) is

-- no number below the first is among them
none-below : (n first : ℕ) (all : Processes) → n < first → find (λ p. p == n) (numbers_from is_live first all) ≡ None
none-below n first [] below = refl
none-below n first (None ∷ all) below = none-below n (first + 1) all (omega arith)
none-below n first (Some p ∷ all) below = by (is_live p) (none-below n (first + 1) all (omega arith))
  where
    by : (b : Bool) → find (λ q. q == n) (numbers_from is_live (first + 1) all) ≡ None → find (λ q. q == n) (cond b (first ∷ numbers_from is_live (first + 1) all) (numbers_from is_live (first + 1) all)) ≡ None
    by true rest = passed-by n first (numbers_from is_live (first + 1) all) None (ne_eqb first n (λ (e : first ≡ n). omega arith)) rest
    by false rest = rest

found-from : (n first i : ℕ) (all : Processes) → n ≡ first + i → find (λ p. p == n) (numbers_from is_live first all) ≡ if_lives n (nth all i)
found-from n first i [] is = refl
found-from n first zero (None ∷ all) is = none-below n (first + 1) all (omega (arith, is))
found-from n first (suc i) (None ∷ all) is = found-from n (first + 1) i all (omega (arith, is))
found-from n first zero (Some p ∷ all) is = by (is_live p)
  where
    by : (b : Bool) → find (λ q. q == n) (cond b (first ∷ numbers_from is_live (first + 1) all) (numbers_from is_live (first + 1) all)) ≡ option_map (λ _. n) (cond b (Some p) None)
    by true = come-to n first (numbers_from is_live (first + 1) all) (omega (arith, is))
    by false = none-below n (first + 1) all (omega (arith, is))
found-from n first (suc i) (Some p ∷ all) is = by (is_live p) (found-from n (first + 1) i all (omega (arith, is)))
  where
    by : (b : Bool) → find (λ q. q == n) (numbers_from is_live (first + 1) all) ≡ if_lives n (nth all i) → find (λ q. q == n) (cond b (first ∷ numbers_from is_live (first + 1) all) (numbers_from is_live (first + 1) all)) ≡ if_lives n (nth all i)
    by true rest = passed-by n first (numbers_from is_live (first + 1) all) (if_lives n (nth all i)) (ne_eqb first n (λ (e : first ≡ n). omega (arith, is, e))) rest
    by false rest = rest

pub live-found : (all : Processes) (n : ℕ) → find (λ p. p == n) (live all) ≡ option_map (λ _. n) (live_process all n)
live-found all zero = none-below 0 1 all (omega arith)
live-found all (suc i) = found-from (suc i) 1 i all (omega arith)

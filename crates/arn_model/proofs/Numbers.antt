-- Things by number: what a change of one leaves, and one more.
use Rattle.std.proofs.Common.{◌≡◌, ℕ, zero, suc, ◌+◌, ◌<◌, ◌≤◌, List, [], ◌∷◌, ◌++◌, length, take, drop, refl, ap, ◌∙◌, sym, Option, Some, None, Bool, true, false, ◌==◌, cond, arith, ne_eqb, option_map, option_and_then, slice_get, slice_set}
use Rattle.std.proofs.lemmas.Bool.Decides.{nat_tests}
use Rattle.std.proofs.lemmas.Bool.{eq-eqb, eqb-true, eqb-false}
use Rattle.std.proofs.lemmas.Option.{slice_get_past}
use Rattle.parts_model.specs.Numbered.{nth}

pub suc-test : (q p : ℕ) → (suc q == suc p) ≡ (q == p)
suc-test q p = grind (arith, nat_tests, eq-eqb, eqb-false, eqb-true)

same : {A : Type 0} → (b : Bool) (x : A) → x ≡ cond b x x
same true x = refl
same false x = refl

pub get-set : {A : Type 0} → (xs : List A) (i : ℕ) (y : A) (j : ℕ) → slice_get (slice_set xs i y) j ≡ cond (j == i) (option_map (λ x. y) (slice_get xs j)) (slice_get xs j)
get-set [] i y j = same (j == i) None
get-set (x ∷ xs) zero y zero = refl
get-set (x ∷ xs) zero y (suc j) = ap (λ b. cond b (option_map (λ x. y) (slice_get xs j)) (slice_get xs j)) (sym (ne_eqb (suc j) zero (λ k. omega arith)))
get-set (x ∷ xs) (suc i) y zero = ap (λ b. cond b (Some y) (Some x)) (sym (ne_eqb zero (suc i) (λ k. omega arith)))
get-set (x ∷ xs) (suc i) y (suc j) = get-set xs i y j ∙ ap (λ b. cond b (option_map (λ x. y) (slice_get xs j)) (slice_get xs j)) (sym (suc-test j i))

set-inside : {A : Type 0} → (y : Option A) (b : Bool) (o : Option (Option A)) → option_and_then (λ thing. thing) (cond b (option_map (λ x. y) o) o) ≡ cond b (option_and_then (λ x. y) o) (option_and_then (λ thing. thing) o)
set-inside y b o = grind (arith, nat_tests)

pub nth-set : {A : Type 0} → (xs : List (Option A)) (i : ℕ) (y : Option A) (j : ℕ) → nth (slice_set xs i y) j ≡ cond (j == i) (option_and_then (λ x. y) (slice_get xs j)) (nth xs j)
nth-set xs i y j = ap (λ o. option_and_then (λ thing. thing) o) (get-set xs i y j) ∙ set-inside y (j == i) (slice_get xs j)

change-here : {A : Type 0} → (f : Option A → Option A) → f None ≡ None → (o : Option (Option A)) → option_and_then (λ x. f (option_and_then (λ thing. thing) o)) o ≡ f (option_and_then (λ thing. thing) o)
change-here f e None = sym e
change-here f e (Some x) = refl

change-by : {A : Type 0} → (f : Option A → Option A) → f None ≡ None → (xs : List (Option A)) (i j : ℕ) (b : Bool) → (j == i) ≡ b → cond b (option_and_then (λ x. f (nth xs i)) (slice_get xs j)) (nth xs j) ≡ cond b (f (nth xs j)) (nth xs j)
change-by f e xs i j true h = ap (λ k. option_and_then (λ x. f (nth xs k)) (slice_get xs j)) (sym (eqb-true j i h)) ∙ change-here f e (slice_get xs j)
change-by f e xs i j false h = refl

-- a change of one thing that leaves none where there is none
pub nth-change : {A : Type 0} → (f : Option A → Option A) → f None ≡ None → (xs : List (Option A)) (i j : ℕ) → nth (slice_set xs i (f (nth xs i))) j ≡ cond (j == i) (f (nth xs j)) (nth xs j)
nth-change f e xs i j = nth-set xs i (f (nth xs i)) j ∙ change-by f e xs i j (j == i) refl

-- one more
pub nth-push : {A : Type 0} → (xs : List (Option A)) (x : Option A) (j : ℕ) → nth (xs ++ x ∷ []) j ≡ cond (j == length xs) x (nth xs j)
nth-push [] x zero = refl
nth-push {A = A} [] x (suc j) = ap (λ (b : Bool). cond {A = Option A} b x None) (sym (ne_eqb (suc j) zero (λ k. omega arith)))
nth-push (y ∷ xs) x zero = ap (λ b. cond b x y) (sym (ne_eqb zero (suc (length xs)) (λ k. omega arith)))
nth-push (y ∷ xs) x (suc j) = nth-push xs x j ∙ ap (λ b. cond b x (nth xs j)) (sym (suc-test j (length xs)))

pub get-take : {A : Type 0} → (n : ℕ) (xs : List A) (j : ℕ) → j < n → slice_get (take n xs) j ≡ slice_get xs j
get-take zero xs j h = absurd (omega arith)
get-take (suc n) [] j h = refl
get-take (suc n) (x ∷ xs) zero h = refl
get-take (suc n) (x ∷ xs) (suc j) h = get-take n xs j (omega arith)

pub get-drop : {A : Type 0} → (n : ℕ) (xs : List A) (j : ℕ) → slice_get (drop n xs) j ≡ slice_get xs (n + j)
get-drop zero xs j = ap (λ k. slice_get xs k) (let e : j ≡ 0 + j = omega arith in e)
get-drop (suc n) [] j = refl
get-drop (suc n) (x ∷ xs) j = get-drop n xs j ∙ ap (λ k. slice_get (x ∷ xs) k) (let e : suc (n + j) ≡ suc n + j = omega arith in e)

pub get-left : {A : Type 0} → (xs ys : List A) (j : ℕ) → j < length xs → slice_get (xs ++ ys) j ≡ slice_get xs j
get-left [] ys j h = absurd (omega arith)
get-left (x ∷ xs) ys zero h = refl
get-left (x ∷ xs) ys (suc j) h = get-left xs ys j (omega arith)

pub get-right : {A : Type 0} → (xs ys : List A) (j : ℕ) → slice_get (xs ++ ys) (length xs + j) ≡ slice_get ys j
get-right [] ys j = ap (λ k. slice_get ys k) (let e : 0 + j ≡ j = omega arith in e)
get-right (x ∷ xs) ys j = ap (λ k. slice_get (x ∷ (xs ++ ys)) k) (let e : suc (length xs) + j ≡ suc (length xs + j) = omega arith in e) ∙ get-right xs ys j

pub nth-past : {A : Type 0} → (xs : List (Option A)) (j : ℕ) → length xs ≤ j → nth xs j ≡ None
nth-past xs j h = ap (λ o. option_and_then (λ thing. thing) o) (slice_get_past xs j h)

-- Numbers of memories.
use Rattle.std.proofs.Common.{◌≡◌, ℕ, suc, ◌+◌, ◌≤◌, ◌==◌, ◌||◌, nat_lt, eqb, Bool, true, false, cond, not, List, [], ◌∷◌, ◌++◌, length, map, fold, Some, None, refl, sym, ap, ap₂, ◌∙◌, arith}
use Rattle.std.specs.List.{position, position_or_len}
use Rattle.std.proofs.lemmas.Bool.Decides.{nat_tests}
use Rattle.std.proofs.lemmas.Bool.{false≢true}
use Rattle.std.proofs.lemmas.List.Folds.{list_any-append, position_or_len_push}
use Rattle.std.proofs.lemmas.List.Sums.{prefix_len-le-length}
use Rattle.guest_states.specs.State.{Memory, also, is_among, number_in}

abbrev pub names : List Memory → List ℕ
names ms = map (λ (m : Memory). m.made) ms

-- a place among names
pub place-names : (ms : List Memory) (made : ℕ) → position_or_len (λ (n : ℕ). n == made) (names ms) ≡ number_in ms made
unfolding number_in
place-names [] made = refl
place-names (m ∷ ms) made = ap (λ (n : ℕ). cond (not (m.made == made)) (1 + n) 0) (place-names ms made)

length-names : (ms : List Memory) → length (names ms) ≡ length ms
length-names [] = refl
length-names (m ∷ ms) = ap suc (length-names ms)

below-step : (b : Bool) (n k : ℕ) → nat_lt (cond (not b) (1 + n) 0) (suc k) ≡ (b || nat_lt n k)
below-step true n k = grind (arith, nat_tests)
below-step false n k = grind (arith, nat_tests)

-- it is a place exactly if the memory is among them
among-below : (ms : List Memory) (made : ℕ) → nat_lt (number_in ms made) (length ms) ≡ is_among ms made
unfolding number_in
among-below [] made = refl
among-below (m ∷ ms) made = below-step (m.made == made) (number_in ms made) (length ms) ∙ ap (λ (b : Bool). (m.made == made) || b) (among-below ms made)

pub position-names : (ms : List Memory) (made : ℕ) → position (λ (n : ℕ). n == made) (names ms) ≡ cond (is_among ms made) (Some (number_in ms made)) None
position-names ms made =
    ap₂ (λ (b : Bool) (n : ℕ). cond b (Some n) None)
    (ap₂ nat_lt (place-names ms made) (length-names ms) ∙ among-below ms made)
    (place-names ms made)

choice-some : (b : Bool) (n k : ℕ) → cond b (Some n) None ≡ Some k → (b ≡ true) × (n ≡ k)
choice-some true n k e = (refl, cc)
choice-some false n k e = absurd (cc)

choice-none : (b : Bool) (n : ℕ) → cond b (Some n) None ≡ None → b ≡ false
choice-none true n e = absurd (cc)
choice-none false n e = refl

-- where a search has found it
pub found : (ms : List Memory) (made place : ℕ) → position (λ (n : ℕ). n == made) (names ms) ≡ Some place → is_among ms made ≡ true
found ms made place e = (choice-some (is_among ms made) (number_in ms made) place (sym (position-names ms made) ∙ e)).0

pub place-found : (xs : List ℕ) (made place : ℕ) → position (λ (n : ℕ). n == made) xs ≡ Some place → place ≡ position_or_len (λ (n : ℕ). n == made) xs
place-found xs made place e = sym ((choice-some (nat_lt (position_or_len (λ (n : ℕ). n == made) xs) (length xs)) (position_or_len (λ (n : ℕ). n == made) xs) place e).1)

pub not-found : (ms : List Memory) (made : ℕ) → position (λ (n : ℕ). n == made) (names ms) ≡ None → is_among ms made ≡ false
not-found ms made e = choice-none (is_among ms made) (number_in ms made) (sym (position-names ms made) ∙ e)

-- behind others
same : (n : ℕ) → (n == n) ≡ true
same n = grind (arith, nat_tests)

or-false : (b : Bool) → (b || false) ≡ b
or-false true = refl
or-false false = refl

among-append : (ms : List Memory) (m : Memory) (made : ℕ) → is_among (ms ++ m ∷ []) made ≡ (is_among ms made || (m.made == made))
among-append ms m made =
    list_any-append (λ (x : Memory). x.made == made) ms (m ∷ []) ∙ ap (λ (b : Bool). is_among ms made || b) (or-false (m.made == made))

append-step : (b r : Bool) (x y : ℕ) → (b || r) ≡ true → (r ≡ true → x ≡ y) → cond (not b) (1 + x) 0 ≡ cond (not b) (1 + y) 0
append-step true r x y h f = refl
append-step false r x y h f = ap (λ (n : ℕ). 1 + n) (f h)

number-append : (ms more : List Memory) (made : ℕ) → is_among ms made ≡ true → number_in (ms ++ more) made ≡ number_in ms made
unfolding number_in
number-append [] more made among = absurd (false≢true among)
number-append (m ∷ ms) more made among =
    append-step (m.made == made) (is_among ms made) (number_in (ms ++ more) made) (number_in ms made) among (number-append ms more made)

-- the place of a name that is put behind the others
new-step : (p b : Bool) (x k : ℕ) → x ≤ k → nat_lt x k ≡ b → b ≡ false → p ≡ true → cond (eqb x k) (k + cond p 0 1) x ≡ k
new-step p b x k le is none same = grind (arith, nat_tests)

pub place-new : (xs : List ℕ) (made : ℕ) → position (λ (n : ℕ). n == made) xs ≡ None → length xs ≡ position_or_len (λ (n : ℕ). n == made) (xs ++ made ∷ [])
place-new xs made e =
    let p : ℕ → Bool = λ n. n == made in
    sym (position_or_len_push p xs made ∙ new-step (made == made) (nat_lt (position_or_len p xs) (length xs)) (position_or_len p xs) (length xs)
    (prefix_len-le-length (λ n. not (p n)) xs) refl (choice-none (nat_lt (position_or_len p xs) (length xs)) (position_or_len p xs) e) (same made))

-- one more, unless it is among them
abbrev also_if : Bool → List Memory → Memory → List Memory
also_if b ms m = cond b ms (ms ++ m ∷ [])

pub also-found : (ms : List Memory) (m : Memory) → is_among ms m.made ≡ true → also ms m ≡ ms
also-found ms m e = ap (λ (b : Bool). also_if b ms m) e

pub also-new : (ms : List Memory) (m : Memory) → is_among ms m.made ≡ false → also ms m ≡ ms ++ m ∷ []
also-new ms m e = ap (λ (b : Bool). also_if b ms m) e

among-if : (b : Bool) (ms : List Memory) (m : Memory) (made : ℕ) → is_among ms made ≡ true → is_among (also_if b ms m) made ≡ true
among-if true ms m made h = h
among-if false ms m made h = among-append ms m made ∙ ap (λ (b : Bool). b || (m.made == made)) h

new-if : (b : Bool) (ms : List Memory) (m : Memory) → is_among ms m.made ≡ b → is_among (also_if b ms m) m.made ≡ true
new-if true ms m e = e
new-if false ms m e = among-append ms m m.made ∙ ap₂ (λ (a b : Bool). a || b) e (same m.made)

number-if : (b : Bool) (ms : List Memory) (m : Memory) (made : ℕ) → is_among ms made ≡ true → number_in (also_if b ms m) made ≡ number_in ms made
number-if true ms m made h = refl
number-if false ms m made h = number-append ms (m ∷ []) made h

-- and more
pub among-fold : (more ms : List Memory) (made : ℕ) → is_among ms made ≡ true → is_among (fold also ms more) made ≡ true
among-fold [] ms made h = h
among-fold (m ∷ more) ms made h = among-fold more (also ms m) made (among-if (is_among ms m.made) ms m made h)

pub among-new : (more ms : List Memory) (m : Memory) → is_among (fold also ms (m ∷ more)) m.made ≡ true
among-new more ms m = among-fold more (also ms m) m.made (new-if (is_among ms m.made) ms m refl)

pub number-fold : (more ms : List Memory) (made : ℕ) → is_among ms made ≡ true → number_in (fold also ms more) made ≡ number_in ms made
number-fold [] ms made h = refl
number-fold (m ∷ more) ms made h =
    number-fold more (also ms m) made (among-if (is_among ms m.made) ms m made h) ∙ number-if (is_among ms m.made) ms m made h

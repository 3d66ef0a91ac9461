-- Flags of processes, and the numbers of those that are set.
use Rattle.std.proofs.Common.{◌≡◌, ℕ, zero, suc, ◌+◌, ◌<◌, ◌≤◌, ◌==◌, cond, if◌then◌else◌, filter, get_or, length, set, Bool, false, List, [], ◌∷◌, ◌++◌, Some, None, unwrap_or, refl, sym, ap, subst, ◌∙◌, arith, get_or-set_same, get_or-set_other}
use Rattle.std.proofs.lemmas.Bool.Decides.{nat_tests}
use Rattle.std.specs.List.{range_with_len}
use Rattle.std.proofs.lemmas.Bool.{eqb-true, eqb-false}
use Rattle.arn_base.specs.declared.records.Record.{Record}
use Rattle.acts_model.specs.Records.{LifeChange, life_told}
use Rattle.history_model.specs.Broken.{greatest}
use Rattle.past_lives.specs.Happened.{change_in, happened, life_after}
use Rattle.past_lives.specs.declared.lives.Life.{Life}
use Rattle.past_lives.proofs.Until.{lives_first, lives-passed, lives-told}

-- numbers that pass a test, from one on, with one number more
pub filter-more : (test : ℕ → Bool) (a n : ℕ) → filter test (range_with_len a (suc n)) ≡ filter test (range_with_len a n) ++ cond (test (a + n)) ((a + n) ∷ []) []
filter-more test a zero =
    let same : a ≡ a + zero = omega arith in
    ap (λ (k : ℕ). cond (test k) (k ∷ []) []) same
filter-more test a (suc n) =
    let same : (a + 1) + n ≡ a + suc n = omega arith in
    let last = cond (test (a + suc n)) ((a + suc n) ∷ []) [] in
    let rest = filter-more test (a + 1) n ∙ ap (λ (k : ℕ). filter test (range_with_len (a + 1) n) ++ cond (test k) (k ∷ []) []) same in
    ap (λ (xs : List ℕ). cond (test a) (a ∷ xs) xs) rest ∙ by_test (test a) (filter test (range_with_len (a + 1) n)) last
  where
    by_test : (b : Bool) (xs ys : List ℕ) → cond b (a ∷ xs ++ ys) (xs ++ ys) ≡ cond b (a ∷ xs) xs ++ ys
    by_test b xs ys = grind (arith, nat_tests)

-- two tests that say the same
pub filter-same : (p q : ℕ → Bool) (a n : ℕ) → ((k : ℕ) → a ≤ k → k < a + n → p k ≡ q k) → filter p (range_with_len a n) ≡ filter q (range_with_len a n)
filter-same p q a zero f = refl
filter-same p q a (suc n) f =
    let here : p a ≡ q a = f a (omega arith) (omega arith) in
    let rest = filter-same p q (a + 1) n (λ k le lt. f k (omega arith) (omega arith)) in
    ap (λ (b : Bool). cond b (a ∷ filter p (range_with_len (a + 1) n)) (filter p (range_with_len (a + 1) n))) here
    ∙ ap (λ (xs : List ℕ). cond (q a) (a ∷ xs) xs) rest

-- flags tell who lives after so many events
abbrev pub TellsFirst : List Record → ℕ → ℕ → List Bool → ℕ → Type 0
TellsFirst entries moment most flags k = (pid : ℕ) → pid ≤ most → get_or flags pid false ≡ lives_first entries moment pid k

-- one for each number up to the greatest
abbrev pub Flags : List Record → ℕ → List Bool → ℕ → Type 0
Flags entries moment flags k = (length flags ≡ greatest entries + 1) × TellsFirst entries moment (greatest entries) flags k

pub flags-next : (entries : List Record) (moment k : ℕ) (flags : List Bool) → length flags ≡ greatest entries + 1 → suc k ≡ k + 1 → TellsFirst entries moment (greatest entries) flags (suc k) → Flags entries moment flags (k + 1)
flags-next entries moment k flags len next f = (len, subst (λ (i : ℕ). TellsFirst entries moment (greatest entries) flags i) next f)

pub flags-passed : (entries : List Record) (moment most k : ℕ) (flags : List Bool) → happened entries moment k ≡ None → TellsFirst entries moment most flags k → TellsFirst entries moment most flags (suc k)
flags-passed entries moment most k flags is f pid le = f pid le ∙ sym (lives-passed entries moment pid k is)

none-own : (c : LifeChange) (pid : ℕ) → change_in c ≡ None → life_after c pid ≡ None
none-own c pid h1 = grind (arith, nat_tests)

pub flags-kept : (entries : List Record) (moment most k : ℕ) (flags : List Bool) (e : Record) → happened entries moment k ≡ Some e → change_in (life_told e) ≡ None → TellsFirst entries moment most flags k → TellsFirst entries moment most flags (suc k)
flags-kept entries moment most k flags e is none f pid le =
    f pid le ∙ sym (lives-told entries moment pid k e None is (none-own (life_told e) pid none))

own-change : (c : LifeChange) (life : Life) (pid : ℕ) → change_in c ≡ Some life → life_after c pid ≡ (if life.pid == pid then Some life.lives else None)
own-change c life pid h1 = grind (arith, nat_tests)

pub flags-told : (entries : List Record) (moment most k : ℕ) (flags : List Bool) (e : Record) (life : Life) → most < length flags → happened entries moment k ≡ Some e → change_in (life_told e) ≡ Some life
    → TellsFirst entries moment most flags k → TellsFirst entries moment most (set flags life.pid life.lives) (suc k)
flags-told entries moment most k flags e life room is told f pid le =
    by_test (life.pid == pid) refl ∙ sym (lives-told entries moment pid k e (if life.pid == pid then Some life.lives else None) is (own-change (life_told e) life pid told))
  where
    by_test : (b : Bool) → (life.pid == pid) ≡ b → get_or (set flags life.pid life.lives) pid false ≡ unwrap_or (if b then Some life.lives else None) (lives_first entries moment pid k)
    by_test b h1 = grind (arith, nat_tests, eqb-true, get_or-set_same, get_or-set_other, eqb-false)

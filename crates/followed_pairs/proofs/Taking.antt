-- The groups that received copies of what is asked, one event after the other.
use Rattle.std.proofs.Common.{◌≡◌, ◌⊎◌, ◌↔◌, inl, inr, ℕ, zero, suc, ◌+◌, ◌<◌, ◌≤◌, ◌++◌, Bool, true, false, List, [], ◌∷◌, Contains, Option, Some, None, option_and_then, OnOk, Ok, Err, Result, refl, ap, sym, subst, ◌∙◌, arith, true≢false}
use Rattle.std.proofs.lemmas.List.Elements.{Contains-append_left, Contains-push, Contains-push_cases}
use Rattle.std.proofs.lemmas.Option.{none-some, same_Some}
use Rattle.arn_base.specs.declared.records.Record.{Record}
use Rattle.history_model.specs.Events.{event_at}
use Rattle.history_model.specs.Exchanges.{received}
use Rattle.history_model.specs.Groups.{event_group}
use Rattle.query_model.specs.Forth.{has_copy}
use Rattle.followed_pairs.specs.Copies.{Takes}
use Rattle.followed_pairs.specs.declared.asked.Asked.{Asked}

pub on-map : {A E P Q : Type 0} (r : Result A E) → (P → Q) → OnOk r P → OnOk r Q
on-map (Ok x) f h = f h
on-map (Err e) f h = tt

-- members of no list
pub none-has : {X : Type 0} (x : X) → Contains [] x → ⊥
none-has x c = absurd (let low = c.1 in omega arith)

-- one more
pub push-has : (xs ys : List ℕ) (m : ℕ) → ys ≡ xs ++ m ∷ [] → (g : ℕ) → Contains ys g ↔ (Contains xs g ⊎ (Some m ≡ Some g))
push-has xs ys m is g = (
  λ c. elim (Contains-push_cases xs m g (subst (λ (zs : List ℕ). Contains zs g) is c)) [ inl d ↦ inl d | inr e ↦ inr (ap (λ (n : ℕ). Some n) e) ],
  λ s. subst (λ (zs : List ℕ). Contains zs g) (sym is)
      (elim s [ inl d ↦ Contains-append_left xs (m ∷ []) g d | inr e ↦ subst (λ (n : ℕ). Contains (xs ++ m ∷ []) n) (same_Some m g e) (Contains-push xs m) ]),
)

pub none-more : (xs : List ℕ) (g : ℕ) → Contains xs g ↔ (Contains xs g ⊎ (None ≡ Some g))
none-more xs g = (λ c. inl c, λ s. elim s [ inl c ↦ c | inr e ↦ absurd (none-some g e) ])

module _ (entries : List Record) (asked : Asked) (n : ℕ) where
  abbrev copies : Bool
  copies = has_copy asked.event asked.from asked.len (option_and_then received (event_at entries n))

  pub taker-more : (o : Option ℕ) (xs ys : List ℕ) → ((g : ℕ) → Contains ys g ↔ (Contains xs g ⊎ (o ≡ Some g))) → o ≡ event_group entries n → copies ≡ true → (g : ℕ) → Contains ys g ↔ (Contains xs g ⊎ Takes entries asked n g)
  taker-more o xs ys more is copy g = (
    λ c. elim ((more g).0 c) [ inl d ↦ inl d | inr e ↦ inr (record { group = sym is ∙ e; copy = copy }) ],
    λ s. elim s [ inl d ↦ (more g).1 (inl d) | inr t ↦ (more g).1 (inr (is ∙ t.group)) ],
  )

  pub no-taker : (xs : List ℕ) → copies ≡ false → (g : ℕ) → Contains xs g ↔ (Contains xs g ⊎ Takes entries asked n g)
  no-taker xs copy g = (λ c. inl c, λ s. elim s [ inl c ↦ c | inr t ↦ absurd (true≢false (sym t.copy ∙ copy)) ])

pub last-or-before : (m n : ℕ) → m < n + 1 → (m ≡ n) ⊎ (m < n)
last-or-before zero zero h = inl refl
last-or-before zero (suc n) h = inr (omega arith)
last-or-before (suc m) zero h = absurd (omega arith)
last-or-before (suc m) (suc n) h = elim (last-or-before m n (omega arith)) [ inl e ↦ inl (ap suc e) | inr l ↦ inr (omega arith) ]

-- those up to a number
module _ {X : Type 0} (Happens : ℕ → X → Type 0) where
  abbrev pub Before : ℕ → X → Type 0
  Before n x = (m : ℕ) × (m < n) × Happens m x

  pub before-more : (n : ℕ) (xs ys : List X) → ((x : X) → Contains xs x ↔ Before n x) → ((x : X) → Contains ys x ↔ (Contains xs x ⊎ Happens n x)) → (x : X) → Contains ys x ↔ Before (n + 1) x
  before-more n xs ys are more x = (
    λ c. elim ((more x).0 c) [
      | inl d ↦ (let t = (are x).0 d in let low = t.1 in (t.0, omega arith, t.2))
      | inr h ↦ (n, omega arith, h)
    ],
    λ t. elim (last-or-before t.0 n t.1) [
      | inl is ↦ (more x).1 (inr (subst (λ (m : ℕ). Happens m x) is t.2))
      | inr low ↦ (more x).1 (inl ((are x).1 (t.0, low, t.2)))
    ],
  )

  pub none-before : (xs : List X) → xs ≡ [] → (x : X) → Contains xs x ↔ Before 0 x
  none-before xs is x = (λ c. absurd (none-has x (subst (λ (ys : List X). Contains ys x) is c)), λ t. absurd (let low = t.1 in omega arith))

-- those before the end
pub at-end : {X : Type 0} (P : ℕ → X → Type 0) (x : X) (n m how : ℕ) → m ≤ n → n ≤ m → m ≡ how → P n x → P how x
at-end P x n m how low high is h = subst (λ (k : ℕ). P k x) (let same : n ≡ how = omega arith in same) h

-- Which pages are own, one page at a time.
use Rattle.std.proofs.Common.{◌≡◌, ◌⊎◌, ℕ, zero, suc, ◌+◌, ◌<◌, ◌≤◌, ◌||◌, not, Bool, true, false, List, [], ◌∷◌, length, get_or, set, replicate, refl, ap, sym, subst, ◌∙◌, arith, inl, inr}
use Rattle.std.specs.List.{list_any}
use Rattle.std.proofs.lemmas.List.{get_or_past, get_or-set_same, length-set}
use Rattle.guest_mem.specs.Pages.{AreOwn, Gains, IsOwn, Lacks, Loses, Meets, NoneOwn}

below-or : (page number : ℕ) → page < number + 1 → (page < number) ⊎ (page ≡ number)
below-or zero zero h = inr refl
below-or zero (suc n) h = inl (omega arith)
below-or (suc p) zero h = absurd (omega arith)
below-or (suc p) (suc n) h = elim (below-or p n (omega arith)) [ inl a ↦ inl (omega arith) | inr e ↦ inr (ap suc e) ]

before-or : (page number : ℕ) → (page < number) ⊎ (number ≤ page)
before-or page zero = inr (omega arith)
before-or zero (suc n) = inl (omega arith)
before-or (suc p) (suc n) = elim (before-or p n) [ inl a ↦ inl (omega arith) | inr b ↦ inr (omega arith) ]

-- a page that is own already
pub own-again : (own : List Bool) (number : ℕ) → get_or own number false ≡ true → own ≡ set own number true
own-again [] number own = refl
own-again (x ∷ xs) zero own = ap (λ (b : Bool). b ∷ xs) own
own-again (x ∷ xs) (suc n) own = ap (λ (l : List Bool). x ∷ l) (own-again xs n own)

-- no page of a range lies before its first one
pub below-none : {A : Type 0} (page first : ℕ) → first ≤ page → page < first → A
below-none page first least below = absurd (omega arith)

pub none-before : {A : Type 0} (page : ℕ) → page < 0 → A
none-before page below = absurd (omega arith)

-- each page of a range lies before its end
pub below-end : (page end number : ℕ) → page < end → end ≤ number → page < number
below-end page end number below last = omega arith

-- a number before the end of a range is one of the table
pub in-table : (number end most all now : ℕ) → number < end → end ≤ most → all ≡ most → now ≡ all → number < now
in-table number end most all now below few count same = omega arith

-- memory in hand for each page that is left
pub some-left : (number end spare : ℕ) → number < end → end ≤ number + spare → 0 < spare
some-left number end spare below enough = omega arith

pub enough-first : (end first met spare : ℕ) → end ≤ first + met → met ≤ spare → end ≤ first + spare
enough-first end first met spare few enough = omega arith

pub enough-more : (end number before after : ℕ) → end ≤ number + before → before ≤ after + 1 → end ≤ number + 1 + after
enough-more end number before after enough one = omega arith

-- one more page is own
own-set : (own : List Bool) (number page : ℕ) → IsOwn own page → IsOwn (set own number true) page
own-set [] number page h = h
own-set (x ∷ xs) zero zero h = refl
own-set (x ∷ xs) zero (suc page) h = h
own-set (x ∷ xs) (suc number) zero h = h
own-set (x ∷ xs) (suc number) (suc page) h = own-set xs number page h

set-own : (own : List Bool) (number page : ℕ) → IsOwn (set own number true) page → IsOwn own page ⊎ (page ≡ number)
set-own [] number page h = inl h
set-own (x ∷ xs) zero zero h = inr refl
set-own (x ∷ xs) zero (suc page) h = inl h
set-own (x ∷ xs) (suc number) zero h = inl h
set-own (x ∷ xs) (suc number) (suc page) h = elim (set-own xs number page h) [ inl a ↦ inl a | inr e ↦ inr (ap suc e) ]

-- one page fewer is own
unset-own : (own : List Bool) (number page : ℕ) → IsOwn (set own number false) page → IsOwn own page
unset-own [] number page h = h
unset-own (x ∷ xs) zero zero h = absurd (cc)
unset-own (x ∷ xs) zero (suc page) h = h
unset-own (x ∷ xs) (suc number) zero h = h
unset-own (x ∷ xs) (suc number) (suc page) h = unset-own xs number page h

unset-other : (own : List Bool) (number page : ℕ) → get_or own page false ≡ false → get_or (set own number false) page false ≡ false
unset-other [] number page h = h
unset-other (x ∷ xs) zero zero h = refl
unset-other (x ∷ xs) zero (suc page) h = h
unset-other (x ∷ xs) (suc number) zero h = h
unset-other (x ∷ xs) (suc number) (suc page) h = unset-other xs number page h

pub gains-none : (place len : ℕ) (own : List Bool) → Gains place len own own
gains-none place len own = record { count = refl; kept = λ page h. h; gained = λ page h. inl h }

pub gains-same : (place len : ℕ) (old now : List Bool) → now ≡ old → Gains place len old now
gains-same place len old now same = subst (λ (own : List Bool). Gains place len old own) (sym same) (gains-none place len old)

pub gains-one : (place len : ℕ) (old now : List Bool) (number : ℕ) → Gains place len old now → Meets place len number → Gains place len old (set now number true)
gains-one place len old now number g met = record {
  count = length-set now number true ∙ g.count;
  kept = λ page h. own-set now number page (g.kept page h);
  gained = λ page h. elim (set-own now number page h) [ inl own ↦ g.gained page own | inr e ↦ inr (subst (λ k. Meets place len k) (sym e) met) ];
}

-- the pages of a range before a number are own
abbrev pub AreOwnBelow : ℕ → ℕ → ℕ → List Bool → Type 0
AreOwnBelow place len number own = (page : ℕ) → Meets place len page → page < number → IsOwn own page

pub own-more : (place len : ℕ) (now : List Bool) (number : ℕ) → AreOwnBelow place len number now → number < length now → AreOwnBelow place len (number + 1) (set now number true)
own-more place len now number own inside page met h = elim (below-or page number h) [
  | inl below ↦ own-set now number page (own page met below)
  | inr e ↦ subst (λ k. IsOwn (set now number true) k) (sym e) (get_or-set_same now number true false inside)
]

-- a page that isn't own wasn't before
pub lacked : (place len : ℕ) (old now : List Bool) (number : ℕ) → Gains place len old now → number < length now → Meets place len number → get_or now number false ≡ false → Lacks place len old
lacked place len old now number g inside met shared = record { page = number; inside = subst (λ n. number < n) g.count inside; met = met; shared = by (get_or old number false) refl } where
  by : (b : Bool) → get_or old number false ≡ b → get_or old number false ≡ false
  by true e = let own = g.kept number e in absurd (cc)
  by false e = e

pub lacks-none : (place len : ℕ) (own : List Bool) → AreOwn place len own → Lacks place len own → ⊥
lacks-none place len own all lacks = let own = all lacks.page lacks.met in let shared = lacks.shared in cc

pub loses-none : (own : List Bool) → Loses own own
loses-none own = record { count = refl; kept = λ page h. h }

pub loses-one : (old now : List Bool) (number : ℕ) → Loses old now → Loses old (set now number false)
loses-one old now number l = record {
  count = length-set now number false ∙ l.count;
  kept = λ page h. l.kept page (unset-own now number page h);
}

-- the pages before a number are shared
abbrev pub AreSharedBelow : ℕ → List Bool → Type 0
AreSharedBelow number own = (page : ℕ) → page < number → get_or own page false ≡ false

pub shared-more : (now : List Bool) (number : ℕ) → AreSharedBelow number now → number < length now → AreSharedBelow (number + 1) (set now number false)
shared-more now number shared inside page h = elim (below-or page number h) [
  | inl below ↦ unset-other now number page (shared page below)
  | inr e ↦ subst (λ k. get_or (set now number false) k false ≡ false) (sym e) (get_or-set_same now number false false inside)
]

pub shared-all : (own : List Bool) (number : ℕ) → AreSharedBelow number own → length own ≤ number → NoneOwn own
shared-all own number shared long page = elim (before-or page number) [ inl below ↦ shared page below | inr past ↦ get_or_past own page false (omega arith) ]

pub none-replicate : (n : ℕ) → NoneOwn (replicate n false)
none-replicate zero page = refl
none-replicate (suc n) zero = refl
none-replicate (suc n) (suc page) = none-replicate n page

or-right : (a b : Bool) → b ≡ true → (a || b) ≡ true
or-right true b h = refl
or-right false b h = h

any-shared : (own : List Bool) (page : ℕ) → page < length own → get_or own page false ≡ false → list_any not own ≡ true
any-shared [] page inside shared = absurd (omega arith)
any-shared (x ∷ xs) zero inside shared = ap (λ (b : Bool). not b || list_any not xs) shared
any-shared (x ∷ xs) (suc page) inside shared = or-right (not x) (list_any not xs) (any-shared xs page (omega arith) shared)

pub wants : (place len : ℕ) (own : List Bool) → Lacks place len own → list_any not own ≡ true
wants place len own lacks = any-shared own lacks.page lacks.inside lacks.shared

-- Numbers that are found over links, over one more each time: over as many links as there are numbers no more are found.
use Rattle.std.proofs.Common.{◌≡◌, ◌⊎◌, inl, inr, ℕ, zero, suc, ◌≤◌, ◌&&◌, ◌||◌, Bool, true, false, not, List, length, refl, sym, ◌∙◌, arith}
use Rattle.std.proofs.lemmas.Bool.Decides.{nat_tests}
use Rattle.std.specs.List.{Contains, list_any}
use Rattle.std.proofs.lemmas.Bool.{false≢true, and_from, and_parts, not_from_false, or_left, or_right, not-true, or_cases}
use Rattle.query_laws.proofs.Counts.{Follows, passes, passes-one-more, passes-all}
use Rattle.query_laws.proofs.Lists.{any-in, in-any}

module _ (numbers : List ℕ) (link : ℕ → ℕ → Bool) (within : ℕ → ℕ → Bool) (step : (n h : ℕ) → within (suc n) h ≡ (within n h || list_any (λ g. within n g && link g h) numbers)) where
  abbrev leads : ℕ → ℕ → ℕ → Bool
  leads n h g = within n g && link g h

  pub step-parts : (n h : ℕ) → within (suc n) h ≡ true → (within n h ≡ true) ⊎ (list_any (leads n h) numbers ≡ true)
  step-parts n h is = or_cases (within n h) (list_any (leads n h) numbers) (sym (step n h) ∙ is)

  pub goes-on : (n : ℕ) → Follows (within n) (within (suc n))
  goes-on n h is = step n h ∙ or_left (within n h) (list_any (leads n h) numbers) is

  pub leads-on : (n h g : ℕ) → Contains numbers g → within n g ≡ true → link g h ≡ true → within (suc n) h ≡ true
  leads-on n h g has is linked =
      step n h ∙ or_right (within n h) (list_any (leads n h) numbers) (any-in (leads n h) numbers g has (and_from (within n g) (link g h) is linked))

  pub from-first : (n : ℕ) → Follows (within 0) (within n)
  from-first zero h is = is
  from-first (suc n) h is = goes-on n h (from-first n h is)

  -- one link more finds no number more
  abbrev IsSettled : ℕ → Type 0
  IsSettled n = (h : ℕ) → Contains numbers h → within (suc n) h ≡ true → within n h ≡ true

  stays-settled : (n : ℕ) → IsSettled n → IsSettled (suc n)
  stays-settled n h1 = grind (arith, nat_tests, and_parts, in-any, leads, leads-on, step-parts)

  abbrev is-fresh : ℕ → ℕ → Bool
  is-fresh n h = within (suc n) h && not (within n h)

  by-fresh : (n : ℕ) (b : Bool) → list_any (is-fresh n) numbers ≡ b → n ≤ passes (within n) numbers → (suc n ≤ passes (within (suc n)) numbers) ⊎ IsSettled n
  by-fresh n true is many =
      let found = in-any (is-fresh n) numbers is in
      let parts = and_parts (within (suc n) found.0) (not (within n found.0)) found.2 in
      inl (omega (arith, passes-one-more (within n) (within (suc n)) (goes-on n) numbers found.0 found.1 (not-true (within n found.0) parts.1) parts.0, many))
  by-fresh n false is many = inr (λ h has found. by-test h has found (within n h) refl)
    where
      by-test : (h : ℕ) → Contains numbers h → within (suc n) h ≡ true → (b : Bool) → within n h ≡ b → within n h ≡ true
      by-test h has found true t = t
      by-test h has found false t =
          absurd (false≢true (sym is ∙ any-in (is-fresh n) numbers h has (and_from (within (suc n) h) (not (within n h)) found (not_from_false (within n h) t))))

  grows : (n : ℕ) → (n ≤ passes (within n) numbers) ⊎ IsSettled n
  grows zero = inl (omega arith)
  grows (suc n) = elim (grows n) [
    | inl many ↦ elim (by-fresh n (list_any (is-fresh n) numbers) refl many) [
      | inl more ↦ inl more
      | inr settled ↦ inr (stays-settled n settled)
    ]
    | inr settled ↦ inr (stays-settled n settled)
  ]

  pub settled-at-most : IsSettled (length numbers)
  settled-at-most = elim (grows (length numbers)) [
    | inl many ↦ λ h has found. passes-all (within (length numbers)) numbers many h has
    | inr settled ↦ settled
  ]
